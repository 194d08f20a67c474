-- Lists of numbers of which none is above a limit.
use Rattle.std.proofs.Common.{◌≡◌, ℕ, ◌+◌, ◌≤◌, Bool, true, List, [], ◌∷◌, map, max, refl, arith}
use Rattle.std.specs.Prelude.{nat_le}
use Rattle.std.specs.List.{list_all}
use Rattle.std.proofs.lemmas.Bool.{and_parts, and_from, leb-true, le-leb}
use Rattle.sag_time.specs.Sorted.{sorted_with, after_start}
use Rattle.sag_time.proofs.SortedLists.{list_all-sorted_with}

abbrev pub up_to : ℕ → ℕ → Bool
up_to limit t = nat_le t limit

pub all-weaker : (limit wider : ℕ) (xs : List ℕ) → limit ≤ wider → list_all (up_to limit) xs ≡ true → list_all (up_to wider) xs ≡ true
all-weaker limit wider [] more all = refl
all-weaker limit wider (x ∷ xs) more all =
    let parts = and_parts (nat_le x limit) (list_all (up_to limit) xs) all in
    and_from (nat_le x wider) (list_all (up_to wider) xs) (le-leb x wider (omega (arith, more, leb-true x limit parts.0))) (all-weaker limit wider xs more parts.1)

pub all-sorted_with : (limit x : ℕ) (ys : List ℕ) → x ≤ limit → list_all (up_to limit) ys ≡ true → list_all (up_to limit) (sorted_with x ys) ≡ true
all-sorted_with limit x ys low all = list_all-sorted_with (up_to limit) x ys (le-leb x limit low) all

pub all-raised : (limit floor : ℕ) (xs : List ℕ) → floor ≤ limit → list_all (up_to limit) xs ≡ true → list_all (up_to limit) (map (max floor) xs) ≡ true
all-raised limit floor [] low all = refl
all-raised limit floor (x ∷ xs) low all =
    let parts = and_parts (nat_le x limit) (list_all (up_to limit) xs) all in
    and_from (nat_le (max floor x) limit) (list_all (up_to limit) (map (max floor) xs))
    (le-leb (max floor x) limit (omega (arith, low, leb-true x limit parts.0))) (all-raised limit floor xs low parts.1)

-- the end may be above the limit by so much more
pub all-after_start : (limit more floor end : ℕ) (xs : List ℕ) → floor ≤ limit → end ≤ limit + more → list_all (up_to limit) xs ≡ true → list_all (up_to (limit + more)) (after_start floor end xs) ≡ true
all-after_start limit more floor end [] low late all = all-sorted_with (limit + more) end [] late refl
all-after_start limit more floor end (x ∷ xs) low late all =
    let rest : list_all (up_to limit) (map (max floor) xs) ≡ true = all-raised limit floor xs low (and_parts (nat_le x limit) (list_all (up_to limit) xs) all).1 in
    all-sorted_with (limit + more) end (map (max floor) xs) late (all-weaker limit (limit + more) (map (max floor) xs) (omega arith) rest)
