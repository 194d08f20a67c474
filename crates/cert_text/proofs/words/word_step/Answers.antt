use Rattle.std.proofs.Common.{arith}
use Rattle.cert_text.proofs.LineEnds.{word_opens}
use Rattle.cert_text.proofs.words.word_step.Goals as goal

pub returns-then-at-word_length : goal.returns-then-at-word_length
returns-then-at-word_length c = λ d.
    word_opens c.args.grammar c.args.word c.args.at c.args.byte c.behind_word.result d c.requires.no_lf
    (omega (arith, c.if-byte-word_byte.false, c.word_byte.ensures)) (omega (arith, c.if-at-word_length.true, c.word_length.ensures)) c.behind_word.ensures
