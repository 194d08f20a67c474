use Rattle.std.proofs.Common.{◌≡◌, ℕ, ◌<◌}
use Rattle.std.specs.Prelude.{IsTrue}
use Rattle.job_sets.specs.Subset.{is_member}
use Rattle.run_meaning.specs.Ready.{core_of, finish_of}
use Rattle.run_cover.specs.Covers.{core_end}
use Rattle.run_cover.proofs.first_jobs.end_their_cores.Given as goal

abbrev pub invariant-loop-no : goal.invariant-loop-no
invariant-loop-no l = (i : ℕ) → i < l.no → IsTrue (is_member i l.last.members) → finish_of l.scenario l.schedule i ≡ core_end l.scenario l.schedule l.set.members (core_of l.schedule i)
