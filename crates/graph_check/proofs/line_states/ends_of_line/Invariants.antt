use Rattle.std.proofs.Common.{◌≡◌, ◌≤◌, length, take}
use Rattle.graph_check.specs.Comings.{ends_of_line}
use Rattle.graph_check.proofs.line_states.ends_of_line.Given as goal

-- those of the line so far
abbrev pub invariant-loop-item : goal.invariant-loop-item
invariant-loop-item l = record {
  items : l.ends.items ≡ ends_of_line (take l.item-index l.list);
  few : length l.ends.items ≤ l.item-index;
}
