use Rattle.csv_numbers.proofs.RowLemmas.{RowsSoFar}
use Rattle.csv_numbers.proofs.read.read_numbers.Given as goal

-- the rows so far
abbrev pub invariant-loop-count : goal.invariant-loop-count
invariant-loop-count l = RowsSoFar l.fn.bytes l.fn.width l.count l.reader l.numbers.items
