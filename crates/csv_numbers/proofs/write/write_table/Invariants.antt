use Rattle.std.proofs.Common.{◌≡◌, length, map, take}
use Rattle.std.specs.List.{All}
use Rattle.csv_numbers.specs.RowsText.{rows_text}
use Rattle.csv_numbers.proofs.ReadBack.{IsRow}
use Rattle.csv_numbers.proofs.write.write_table.Given as goal

-- the text so far, of rows that fit
abbrev pub invariant-loop-row : goal.invariant-loop-row
invariant-loop-row g l = record {
  text : l.text.items ≡ rows_text (map (λ w. w.now) l.heading) (take l.row-index l.rows);
  rows : All (IsRow (length l.heading)) (take l.row-index l.rows);
}
