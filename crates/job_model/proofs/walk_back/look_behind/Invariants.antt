use Rattle.job_model.specs.Marks.{AreFinished}
use Rattle.job_model.proofs.walk_back.look_behind.Given as goal

-- the predecessors so far are finished
abbrev pub invariant-loop-place : goal.invariant-loop-place
invariant-loop-place l = AreFinished l.edges l.marks l.fn.job l.place
