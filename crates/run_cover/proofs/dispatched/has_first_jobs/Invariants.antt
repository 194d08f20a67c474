use Rattle.std.proofs.Common.{◌≡◌, ℕ, ◌<◌}
use Rattle.job_sets.specs.Subset.{is_member}
use Rattle.run_cover.specs.Covers.{prefix}
use Rattle.run_cover.proofs.dispatched.has_first_jobs.Given as goal

abbrev pub invariant-loop-no : goal.invariant-loop-no
invariant-loop-no l = (j : ℕ) → j < l.no → is_member j l.set.members ≡ is_member j (prefix l.table l.schedule l.fn.count)
