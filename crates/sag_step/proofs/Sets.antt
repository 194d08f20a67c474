-- Sets beside each other.
use Rattle.std.proofs.Common.{◌≡◌, ℕ, Bool, true, false, List, [], ◌∷◌, length, arith, ap, sym, refl}
use Rattle.std.specs.Prelude.{IsTrue, ◌↔◌}
use Rattle.std.specs.Cmp.Lexicographic.{bytes_decides}
use Rattle.std.proofs.lemmas.Bool.{false_from_ne_true, false≢true}
use Rattle.job_sets.specs.Subset.{Subset, is_within}
use Rattle.sag_step.specs.Widen.{same_set}

-- sets of one size are equal where their members are
pub same_set-from : (r : Bool) (a b : Subset) → a.size ≡ b.size → (IsTrue r ↔ (a ≡ b)) → r ≡ same_set a b
same_set-from true a b size equal = sym ((bytes_decides a.members b.members).1 (ap (λ (s : Subset). s.members) (equal.0 refl)))
same_set-from false a b size equal = sym (false_from_ne_true (same_set a b) (λ same.
    let members : a.members ≡ b.members = (bytes_decides a.members b.members).0 same in
    false≢true (equal.1 (λ i. record { size = size i; members = members i }))))

-- a set without members is in each other
pub none_within : (xs ys : List ℕ) → length xs ≡ 0 → is_within xs ys ≡ true
none_within [] ys h = refl
none_within (x ∷ xs) ys h = absurd (omega (arith, h))
