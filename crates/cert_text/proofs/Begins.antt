-- What stood before, in a text that was written on.
use Rattle.std.proofs.Common.{◌≡◌, ℕ, List, ◌++◌, length, take}
use Rattle.std.proofs.Transfers.{starts_with_of_append, starts_with_trans}

-- it stands there when more is written behind a text that begins with it
pub begins_behind : (old front tail new : List ℕ) → front ≡ old ++ tail → take (length front) new ≡ front → take (length old) new ≡ old
begins_behind old front tail new is begins = starts_with_trans new front old begins (starts_with_of_append front old tail is)
