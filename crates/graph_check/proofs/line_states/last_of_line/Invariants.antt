use Rattle.std.proofs.Common.{◌≡◌, ◌≤◌, take, true}
use Rattle.std.specs.List.{list_all}
use Rattle.std.specs.Prelude.{nat_lt}
use Rattle.graph_check.proofs.LastJobs.{past_last}
use Rattle.graph_check.proofs.line_states.last_of_line.Given as goal

-- those of the line so far
abbrev pub invariant-loop-number : goal.invariant-loop-number
invariant-loop-number l = record {
  last : l.last ≡ record { size = l.size; members = take l.number-index l.list };
  least : past_last (take l.number-index l.list) ≡ l.least;
  below : list_all (λ k. nat_lt k l.least) (take l.number-index l.list) ≡ true;
  few : l.least ≤ l.size;
}
