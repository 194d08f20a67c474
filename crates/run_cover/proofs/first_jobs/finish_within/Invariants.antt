use Rattle.std.proofs.Common.{ℕ, ◌<◌, get_or}
use Rattle.std.specs.Prelude.{IsTrue}
use Rattle.sag_time.specs.Interval.{Interval, holds}
use Rattle.run_meaning.specs.Ready.{finish_of}
use Rattle.run_cover.proofs.first_jobs.finish_within.Given as goal

abbrev pub invariant-loop-place : goal.invariant-loop-place
invariant-loop-place l = (k : ℕ) (d : ℕ × Interval) → k < l.place → IsTrue (holds (get_or l.ends.items k d).1 (finish_of l.scenario l.schedule (get_or l.ends.items k d).0))
