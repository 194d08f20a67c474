use Rattle.std.proofs.Common.{◌≡◌, ◌-◌, drop, length}
use Rattle.graph_check.specs.Turns.{level_states, offers_left, windows_at}
use Rattle.graph_check.proofs.offer_walk.settle.Given as goal

-- the windows are those of the state, and what is left is what was left at first
abbrev pub invariant-loop-place : goal.invariant-loop-place
invariant-loop-place l =
    let level = level_states l.states in
    record {
      own : l.place.windows.items ≡ windows_at l.table level l.place.at;
      left : offers_left l.table level l.place.at (drop l.place.place l.place.windows.items)
          ≡ offers_left l.table level l.initial.place.at (drop l.initial.place.place l.initial.place.windows.items);
    }

abbrev pub decreases-loop-place : goal.decreases-loop-place
decreases-loop-place l = length l.states - l.place.at
