use Rattle.std.proofs.Common.{◌≡◌, ◌++◌, ◌≤◌, ℕ, List, length}
use Rattle.sag_edge.specs.Writing.{GrowsBy, StillTells}
use Rattle.sag_edge.proofs.writing.write_whole.Given as goal

abbrev pub invariant-loop-rest : goal.invariant-loop-rest
invariant-loop-rest g l =
    let seen = g.S.Sink.seen in
    record {
      later : (seen l.fn.sink).faults ≤ (seen l.sink).faults;
      tells : StillTells (seen l.fn.sink) (seen l.sink) l.bytes;
      written : (done : List ℕ) × (l.bytes ≡ done ++ l.rest) × GrowsBy (seen l.fn.sink).taken (seen l.sink).taken done;
    }

abbrev pub decreases-loop-rest : goal.decreases-loop-rest
decreases-loop-rest g l = length l.rest
