use Rattle.std.proofs.Common.{◌≡◌, length, take}
use Rattle.job_model.specs.Neighbours.{AreNeighbours}
use Rattle.job_model.proofs.edges.Edges.of.Given as goal

-- so far the lists have the sources and the targets
abbrev pub invariant-loop-before : goal.invariant-loop-before
invariant-loop-before l = record {
  pred_count : length l.preds ≡ l.jobs;
  succ_count : length l.succs ≡ l.jobs;
  neighbours : AreNeighbours (take l.before-index l.before-items) l.preds l.succs;
}
