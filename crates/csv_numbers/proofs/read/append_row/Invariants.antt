use Rattle.csv.specs.Records.{fields_of}
use Rattle.csv_numbers.proofs.RowLemmas.{RowSoFar}
use Rattle.csv_numbers.proofs.read.append_row.Given as goal

-- the numbers of the fields so far
abbrev pub invariant-columns : goal.invariant-columns
invariant-columns l = RowSoFar (fields_of l.entry) l.column l.initial.numbers.items l.numbers.items
