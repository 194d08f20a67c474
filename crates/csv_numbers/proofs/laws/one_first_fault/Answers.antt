use Rattle.csv_numbers.proofs.OneFirstFault.{one_first_fault}
use Rattle.csv_numbers.proofs.laws.one_first_fault.Goals as goal

pub returns : goal.returns
returns c = one_first_fault
