use Rattle.sag_texts.specs.FaultTexts.{table_fault_text}
use Rattle.sag_texts.proofs.fault_lines.write_table_fault.Goals as goal

pub returns-in-OverLimit : goal.returns-in-OverLimit
unfolding table_fault_text
returns-in-OverLimit g c = rw (c.in-OverLimit.is, ← c.from.ensures) c.refuse_field.ensures

pub returns-in-SpanReversed : goal.returns-in-SpanReversed
unfolding table_fault_text
returns-in-SpanReversed g c = rw (c.in-SpanReversed.is, ← c.from-in-SpanReversed.ensures) c.refuse_field-in-SpanReversed.ensures
