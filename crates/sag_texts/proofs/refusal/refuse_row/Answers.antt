use Rattle.std.proofs.Common.{[], ◌∷◌, codes}
use Rattle.std.specs.Fmt.{decimal}
use Rattle.std.proofs.lemmas.Result.{err_from_is_err_and}
use Rattle.sag_edge.proofs.WriteLemmas.{puts_halt, puts_then}
use Rattle.sag_texts.specs.FaultTexts.{file_word, refusal, row_refusal}
use Rattle.sag_texts.specs.Pieces.{piece_texts}
use Rattle.sag_texts.proofs.TextLemmas.{line-append}
use Rattle.sag_texts.proofs.refusal.refuse_row.Goals as goal

pub returns-in_err-write_pieces : goal.returns-in_err-write_pieces
unfolding refusal row_refusal
returns-in_err-write_pieces g c =
    let failed = err_from_is_err_and c.from_residual.result c.from_residual.ensures.1 in
    rw (failed.1, failed.2, line-append (codes "refused " ∷ file_word c.args.file ∷ codes " row " ∷ decimal c.args.row ∷ []) (piece_texts c.args.why.now)) (puts_halt _ c.in_err-write_pieces.ensures)

pub returns : goal.returns
unfolding refusal row_refusal
returns g c =
    rw (line-append (codes "refused " ∷ file_word c.args.file ∷ codes " row " ∷ decimal c.args.row ∷ []) (piece_texts c.args.why.now)) (puts_then c.in_ok-write_pieces.ensures c.write_line.ensures)
