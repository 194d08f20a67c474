use Rattle.std.proofs.Common.{◌≡◌, ◌++◌, map, take}
use Rattle.std.specs.List.{join_with_byte}
use Rattle.std.specs.Prelude.{decimal}
use Rattle.csv_numbers.proofs.write.put_numbers.Given as goal

-- the fields so far
abbrev pub invariant-loop-place : goal.invariant-loop-place
invariant-loop-place l = l.text.items ≡ l.fn.text.items ++ join_with_byte 44 (map decimal (take l.place l.numbers))
