use Rattle.cert_text.proofs.line_end.end_by_number.Goals as goal

pub returns-in_default : goal.returns-in_default
returns-in_default c = c.end_by_field.ensures c.args.grammar c.args.draft.now
