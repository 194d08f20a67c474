use Rattle.std.proofs.Common.{◌≡◌, take}
use Rattle.csv_numbers.specs.Fields.{value_of}
use Rattle.csv_numbers.proofs.field.value.Given as goal

-- the value of the digits so far
abbrev pub invariant-loop-digit : goal.invariant-loop-digit
invariant-loop-digit l = l.value ≡ value_of (take l.digit-index l.digits)
