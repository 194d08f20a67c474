use Rattle.std.proofs.Common.{◌≡◌, ◌<◌, ◌^◌, take}
use Rattle.std.specs.Char.{IsAsciiDigit}
use Rattle.std.specs.List.{All}
use Rattle.csv_numbers.specs.Fields.{value_of}
use Rattle.csv_numbers.proofs.field.read_short.Given as goal

-- the value of the digits so far, which is below the power of 10 that has one digit more
abbrev pub invariant-loop-byte : goal.invariant-loop-byte
invariant-loop-byte l = record {
  digits : All IsAsciiDigit (take l.byte-index l.text);
  value : l.value ≡ value_of (take l.byte-index l.text);
  below : l.value < 10 ^ l.byte-index;
}
