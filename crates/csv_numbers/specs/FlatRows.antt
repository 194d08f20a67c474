-- Rows that lie in one list, one after the other.
--     flat_rows width count numbers     the first `count` rows of `width` numbers each
use Rattle.std.specs.Prelude.{[], ◌∷◌, ℕ, zero, suc, List, drop, take}

-- the first `count` rows of `width` numbers each
unfoldable pub flat_rows : ℕ → ℕ → List ℕ → List (List ℕ)
flat_rows width zero numbers = []
flat_rows width (suc count) numbers = take width numbers ∷ flat_rows width count (drop width numbers)
