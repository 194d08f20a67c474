use Rattle.std.proofs.Common.{◌≡◌, take}
use Rattle.cert_text.specs.Kept.{DigitsLead}
use Rattle.cert_text.proofs.digit.take_digits.Given as goal

abbrev pub invariant-loop-byte : goal.invariant-loop-byte
invariant-loop-byte l = (l.count ≡ l.byte-index) × DigitsLead l.fn.number (take l.count l.bytes) l.value
