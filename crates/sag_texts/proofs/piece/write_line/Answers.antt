use Rattle.std.proofs.lemmas.Result.{err_from_is_err_and}
use Rattle.sag_edge.proofs.WriteLemmas.{puts_halt, puts_then}
use Rattle.sag_texts.specs.FaultTexts.{line}
use Rattle.sag_texts.proofs.piece.write_line.Goals as goal

pub returns-in_err-write_pieces : goal.returns-in_err-write_pieces
unfolding line
returns-in_err-write_pieces g c =
    let failed = err_from_is_err_and c.from_residual.result c.from_residual.ensures.1 in
    rw (failed.1, failed.2) (puts_halt _ c.in_err-write_pieces.ensures)

pub returns : goal.returns
unfolding line
returns g c = puts_then c.in_ok-write_pieces.ensures c.write_whole.ensures
