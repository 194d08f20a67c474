use Rattle.sag_texts.specs.FaultTexts.{side_fault_text}
use Rattle.sag_texts.proofs.fault_lines.write_side_fault.Goals as goal

pub returns-in-Unknown : goal.returns-in-Unknown
unfolding side_fault_text
returns-in-Unknown g c = rw c.in-Unknown.is c.refuse_field.ensures

pub returns-in-Outside : goal.returns-in-Outside
unfolding side_fault_text
returns-in-Outside g c = rw c.in-Outside.is c.refuse_field-in-Outside.ensures
