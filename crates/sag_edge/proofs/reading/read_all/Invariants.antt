use Rattle.std.proofs.Common.{◌≡◌, ◌+◌, vec_len}
use Rattle.sag_edge.specs.Reading.{HasRead}
use Rattle.sag_edge.proofs.reading.read_all.Given as goal

abbrev pub invariant-loop-room : goal.invariant-loop-room
invariant-loop-room g l =
    let seen = g.F.Files.seen in
    record {
      read : HasRead (seen l.fn.files) (seen l.files) l.fn.name l.list.items;
      left : vec_len l.list + l.room ≡ l.fn.limit + 1;
      piece : vec_len l.piece ≡ 65536;
    }

abbrev pub decreases-loop-room : goal.decreases-loop-room
decreases-loop-room g l = l.room
