use Rattle.std.proofs.Common.{◌≡◌, ◌++◌, drop, length, take}
use Rattle.sag_step.specs.State.{states_of}
use Rattle.graph_builder.specs.Writing.{state_lines, text_of}
use Rattle.graph_builder.proofs.writing.write_states.Given as goal

-- what is written, and the lines of the states that are left, are all
abbrev pub invariant-loop-i : goal.invariant-loop-i
invariant-loop-i l = record {
  lines : l.into.items ++ text_of (state_lines l.fn.edges l.i (drop l.i (states_of l.states))) ≡ l.initial.into.items ++ text_of (state_lines l.fn.edges 0 (states_of l.states));
  begins : take (length l.initial.into.items) l.into.items ≡ l.initial.into.items;
}
