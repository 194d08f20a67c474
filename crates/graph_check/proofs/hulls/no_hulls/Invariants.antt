use Rattle.std.proofs.Common.{◌≡◌, ◌≤◌, ◌-◌, length, replicate, None}
use Rattle.graph_check.proofs.hulls.no_hulls.Given as goal

-- there is none so far
abbrev pub invariant-loop-hulls : goal.invariant-loop-hulls
invariant-loop-hulls l = record {
  none : l.hulls.items ≡ replicate (length l.hulls.items) None;
  few : length l.hulls.items ≤ l.count;
}

abbrev pub decreases-loop-hulls : goal.decreases-loop-hulls
decreases-loop-hulls l = l.count - length l.hulls.items
