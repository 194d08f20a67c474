use Rattle.std.proofs.Common.{◌≡◌, map, take}
use Rattle.gap_report.specs.GapText.{gap_columns}
use Rattle.gap_report.proofs.gap_row.write_gap.Given as goal

-- the numbers of the rows so far
abbrev pub invariant-loop-row : goal.invariant-loop-row
invariant-loop-row l = l.columns.items ≡ map gap_columns (take l.row-index l.rows)
