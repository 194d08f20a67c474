use Rattle.std.proofs.Common.{◌≡◌, map, take}
use Rattle.job_model.specs.Table.{predecessors}
use Rattle.sag_step.specs.Next.{ended_by}
use Rattle.sag_step.proofs.ends.end_predecessors.Given as goal

-- the predecessors so far have finished
abbrev pub invariant-loop-before : goal.invariant-loop-before
invariant-loop-before l = record {
  items : l.ends.items ≡ map (ended_by (take l.before-index (predecessors l.table l.fn.job)) l.latest) l.fn.ends.items;
  room : l.ends.room ≡ l.fn.ends.room;
}
