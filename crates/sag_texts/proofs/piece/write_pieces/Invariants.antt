use Rattle.std.proofs.Common.{Ok, take}
use Rattle.std.specs.List.{concat}
use Rattle.sag_edge.specs.Writing.{Puts}
use Rattle.sag_edge.specs.declared.reading.Failed.{Failed}
use Rattle.sag_texts.specs.Pieces.{piece_texts}
use Rattle.sag_texts.proofs.piece.write_pieces.Given as goal

-- the pieces so far are written
abbrev pub invariant-loop-piece : goal.invariant-loop-piece
invariant-loop-piece g l =
    Puts {T = Unit {0}} {E = Failed} (g.S.Sink.seen l.fn.sink) (g.S.Sink.seen l.sink) (concat (piece_texts (take l.piece-index l.pieces))) (Ok tt)
