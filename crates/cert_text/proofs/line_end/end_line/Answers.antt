use Rattle.cert_text.proofs.line_end.end_line.Goals as goal

pub returns-in-InWord : goal.returns-in-InWord
returns-in-InWord c = λ s. rw c.in-InWord.is (c.end_by_word.ensures c.args.draft.now)

pub returns-in-Digits : goal.returns-in-Digits
returns-in-Digits c = λ s. rw c.in-Digits.is c.end_by_number.ensures

pub returns-in-InMark : goal.returns-in-InMark
returns-in-InMark c = λ s. rw c.in-InMark.is (c.end_by_mark.ensures c.args.draft.now)
