use Rattle.std.proofs.Common.{◌≡◌, ◌≢◌, ℕ, ◌+◌, ◌*◌, length}
use Rattle.job_model.specs.Marks.{IsPath, mark_at, unseen}
use Rattle.job_model.specs.declared.walk_back.Mark.TheVariants as mark
use Rattle.job_model.proofs.walk_back.walks_into_cycle.Given as goal

-- the job has been met, and what was finished stays so
abbrev pub invariant-loop-visit : goal.invariant-loop-visit
invariant-loop-visit l = record {
  is_path : IsPath l.edges l.marks l.path.items;
  met : mark_at l.marks l.fn.job ≢ mark.Unseen;
  finished_kept : (i : ℕ) → mark_at l.fn.marks i ≡ mark.Finished → mark_at l.marks i ≡ mark.Finished;
}

abbrev pub decreases-loop-visit : goal.decreases-loop-visit
decreases-loop-visit l = 2 * unseen l.marks + length l.path.items
