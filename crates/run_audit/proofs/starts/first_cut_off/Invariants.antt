use Rattle.std.proofs.Common.{ℕ, ◌<◌}
use Rattle.run_audit.specs.Firsts.{IsCutOff, IsAmongFirst}
use Rattle.run_audit.specs.Orders.{job_in}
use Rattle.run_audit.specs.Waits.{AreCoreEnds}
use Rattle.run_audit.proofs.starts.first_cut_off.Given as goal

-- none of the jobs so far, and when they leave the cores
abbrev pub invariant-loop-no : goal.invariant-loop-no
invariant-loop-no l =
    ((p : ℕ) → p < l.no-index → ¬ IsCutOff l.entries (job_in l.order p)) × AreCoreEnds l.entries l.cores (IsAmongFirst l.order l.no-index) l.ends.items
