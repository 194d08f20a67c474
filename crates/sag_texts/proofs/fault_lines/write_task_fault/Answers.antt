use Rattle.sag_texts.specs.FaultTexts.{task_fault_text}
use Rattle.sag_texts.proofs.fault_lines.write_task_fault.Goals as goal

pub returns-in-OverLimit : goal.returns-in-OverLimit
unfolding task_fault_text
returns-in-OverLimit g c = rw c.in-OverLimit.is c.refuse_field.ensures
