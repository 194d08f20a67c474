use Rattle.sag_texts.specs.FaultTexts.{csv_fault_text}
use Rattle.sag_texts.proofs.fault_lines.write_csv_fault.Goals as goal

pub returns-in-NotNumber : goal.returns-in-NotNumber
unfolding csv_fault_text
returns-in-NotNumber g c = rw c.in-NotNumber.is c.refuse_field.ensures

pub returns-in-TooBig : goal.returns-in-TooBig
unfolding csv_fault_text
returns-in-TooBig g c = rw c.in-TooBig.is c.refuse_field-in-TooBig.ensures
