use Rattle.std.proofs.Common.{◌<◌, [], arith, length}
use Rattle.std.proofs.lemmas.Result.{err_from_is_err_and}
use Rattle.sag_edge.proofs.WriteLemmas.{puts_halt, puts_then}
use Rattle.sag_texts.specs.declared.piece.Piece.{Piece}
use Rattle.sag_texts.specs.declared.piece.Piece.TheVariants.{Words}
use Rattle.sag_texts.proofs.TextLemmas.{puts_none, text-split, text-take_more}
use Rattle.sag_texts.proofs.piece.write_pieces.Goals as goal

-- what stands for a piece past the end
no_piece : Piece
no_piece = Words (record { ref_ptr = (0, 0); now = [] })

pub loop-piece-init : goal.loop-piece-init
loop-piece-init g c = puts_none _

pub returns-in_err-write_piece : goal.returns-in_err-write_piece
unfolding no_piece
returns-in_err-write_piece g c =
    let failed = err_from_is_err_and c.from_residual.result c.from_residual.ensures.1 in
    let within : c.loop-piece.piece-index < length c.args.pieces.now = omega arith in
    rw (failed.1, failed.2, text-split c.args.pieces.now c.loop-piece.piece-index no_piece within)
    (puts_halt _ (puts_then c.loop-piece.invariant c.in_err-write_piece.ensures))

pub loop-piece-preserved : goal.loop-piece-preserved
unfolding no_piece
loop-piece-preserved g c =
    let within : c.loop-piece.piece-index < length c.args.pieces.now = omega arith in
    rw (text-take_more c.args.pieces.now c.loop-piece.piece-index no_piece within)
    (puts_then c.loop-piece.invariant c.in_ok-write_piece.ensures)
