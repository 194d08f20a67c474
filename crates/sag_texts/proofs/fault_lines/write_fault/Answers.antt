use Rattle.sag_texts.specs.FaultTexts.{fault_text}
use Rattle.sag_texts.proofs.fault_lines.write_fault.Goals as goal

pub returns-in-CannotWrite : goal.returns-in-CannotWrite
unfolding fault_text
returns-in-CannotWrite g c = rw c.in-CannotWrite.is c.write_line-in-CannotWrite.ensures

pub returns-in-NoJob : goal.returns-in-NoJob
unfolding fault_text
returns-in-NoJob g c = rw c.in-NoJob.is c.write_line.ensures
