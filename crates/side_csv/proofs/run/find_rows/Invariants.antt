use Rattle.std.proofs.Common.{take}
use Rattle.side_csv.specs.Places.{Places}
use Rattle.side_csv.specs.RowPerJob.{KeepRules}
use Rattle.side_csv.specs.RunText.{outside_in_run}
use Rattle.side_csv.proofs.run.find_rows.Given as goal

-- the rows so far keep the rules, and their places are noted
abbrev pub invariant-loop-i : goal.invariant-loop-i
invariant-loop-i l = record { places : Places l.table (take l.i l.rows) l.places.items; kept : KeepRules (outside_in_run l.scenario) l.table (take l.i l.rows) }
