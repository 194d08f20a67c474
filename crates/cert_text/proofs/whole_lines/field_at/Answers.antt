use Rattle.cert_text.proofs.LinesAtOnce.{reads_field}
use Rattle.cert_text.proofs.whole_lines.field_at.Goals as goal

pub returns-then-pass_byte-clause-reads : goal.returns-then-pass_byte-clause-reads
returns-then-pass_byte-clause-reads c =
    let passed = c.pass_byte.ensures.passed c.if-pass_byte.true in
    rw passed.1 (reads_field c.args.piece.now c.args.at.now c.number_at.new.at c.args.after c.in_ok-number.number passed.0 passed.2 c.in_ok-number.ensures.reads)
