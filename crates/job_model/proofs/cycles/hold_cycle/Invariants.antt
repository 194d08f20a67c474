use Rattle.std.proofs.Common.{◌≡◌, ℕ, ◌<◌, [], length}
use Rattle.job_model.specs.Marks.{IsPath, mark_at}
use Rattle.job_model.specs.declared.walk_back.Mark.TheVariants as mark
use Rattle.job_model.proofs.cycles.hold_cycle.Given as goal

-- the jobs so far are finished, and none is on a path
abbrev pub invariant-loop-job : goal.invariant-loop-job
invariant-loop-job l = record {
  finished : (j : ℕ) → j < l.job → mark_at l.marks.items j ≡ mark.Finished;
  clear : IsPath l.edges l.marks.items [];
  no_path : l.path.items ≡ [];
  count_kept : length l.marks.items ≡ l.jobs;
}
