use Rattle.std.proofs.Common.{sym, ◌∙◌, arith}
use Rattle.cert_text.proofs.LinesAtOnce.{reads_number}
use Rattle.cert_text.proofs.whole_lines.number_at.Goals as goal

pub returns-clause-reads : goal.returns-clause-reads
returns-clause-reads c =
    reads_number c.args.piece.now c.args.at.now c.take_digits.result c.take_digits.new.number (omega (arith, c.if-at-piece.false, c.requires))
    (sym c.is_digit_byte.ensures.same ∙ c.if-not-is_digit_byte.false) c.take_digits.ensures.leads
