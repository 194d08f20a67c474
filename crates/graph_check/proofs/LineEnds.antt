-- The ends that a line gives, and what of them rules out a state.
use Rattle.std.proofs.Common.{◌≡◌, ℕ, zero, suc, ◌+◌, ◌<◌, ◌≤◌, Bool, true, false, List, [], ◌∷◌, ◌++◌, get_or, length, take, Some, refl, ap, sym, ◌∙◌, subst, arith}
use Rattle.std.specs.Prelude.{nat_le, nat_lt, slice_get}
use Rattle.std.specs.List.{list_all}
use Rattle.std.specs.Map.{keys_of}
use Rattle.std.specs.Option.{option_map}
use Rattle.std.proofs.lemmas.Bool.{and_parts, and_from, leb-true, ltb-true}
use Rattle.std.proofs.lemmas.List.{map_more}
use Rattle.std.proofs.lemmas.Option.{slice_get-get_or, slice_get-map}
use Rattle.job_sets.specs.Subset.{is_rising}
use Rattle.sag_time.specs.Interval.{Interval}
use Rattle.start_windows.specs.Ends.{is_above}
use Rattle.cert_text.specs.declared.line.EndOf.{EndOf}
use Rattle.graph_check.specs.Comings.{AreEnds, ends_of_line}
use Rattle.lists.proofs.Orderings.{true≢false}

-- ---- a test of each element

list_all-at : {A : Type 0} (p : A → Bool) (xs : List A) (i : ℕ) (x : A) → list_all p xs ≡ true → slice_get xs i ≡ Some x → p x ≡ true
list_all-at p [] i x all e = absurd (cc)
list_all-at p (y ∷ xs) zero x all e = subst (λ z. p z ≡ true) (cc) (and_parts (p y) (list_all p xs) all).0
list_all-at p (y ∷ xs) (suc i) x all e = list_all-at p xs i x (and_parts (p y) (list_all p xs) all).1 e

key-at : (items : List (ℕ × Interval)) (i : ℕ) (x : ℕ × Interval) → slice_get items i ≡ Some x → slice_get (keys_of items) i ≡ Some x.0
key-at [] i x e = absurd (cc)
key-at (y ∷ items) zero x e = cc
key-at (y ∷ items) (suc i) x e = key-at items i x e

-- in a rising list each number is above those before it
above-at : (items : List (ℕ × Interval)) (i : ℕ) (x : ℕ × Interval) → is_rising (keys_of items) ≡ true → slice_get items i ≡ Some x → is_above x.0 (take i items) ≡ true
above-at [] i x rising e = absurd (cc)
above-at (y ∷ items) zero x rising e = refl
above-at (y ∷ items) (suc i) x rising e =
    let parts = and_parts (list_all (nat_lt y.0) (keys_of items)) (is_rising (keys_of items)) rising in
    and_from (nat_lt y.0 x.0) (is_above x.0 (take i items)) (list_all-at (nat_lt y.0) (keys_of items) i x.0 parts.0 (key-at items i x e)) (above-at items i x parts.1 e)

-- ---- ends of a line

abbrev item : EndOf → ℕ × Interval
item e = (e.job, record { lo = e.lo; hi = e.hi })

take-ends : (i : ℕ) (list : List EndOf) → take i (ends_of_line list) ≡ ends_of_line (take i list)
take-ends zero list = refl
take-ends (suc i) [] = refl
take-ends (suc i) (e ∷ list) = ap (λ es. item e ∷ es) (take-ends i list)

-- read only past the end of a list of ends
abbrev pub no_end : EndOf
no_end = record { job = 0; lo = 0; hi = 0 }

module _ (size : ℕ) (list : List EndOf) (i : ℕ) (within : i < length list) where
  abbrev pub here : EndOf
  here = get_or list i no_end

  there : slice_get (ends_of_line list) i ≡ Some (item here)
  there = slice_get-map item list i ∙ ap (option_map item) (slice_get-get_or list i no_end within)

  pub bad-job : size ≤ here.job → ¬ AreEnds size (ends_of_line list)
  bad-job past ends =
      let below : here.job < size = ltb-true here.job size (list_all-at (λ j. nat_lt j size) (keys_of (ends_of_line list)) i here.job ends.in_range (key-at (ends_of_line list) i (item here) there)) in
      omega arith

  pub bad-span : here.hi < here.lo → ¬ AreEnds size (ends_of_line list)
  bad-span reversed ends =
      let order : here.lo ≤ here.hi = leb-true here.lo here.hi (list_all-at (λ (x : ℕ × Interval). nat_le x.1.lo x.1.hi) (ends_of_line list) i (item here) ends.spans there) in
      omega arith

  pub bad-order : is_above here.job (ends_of_line (take i list)) ≡ false → ¬ AreEnds size (ends_of_line list)
  bad-order low ends =
      let above = subst (λ xs. is_above here.job xs ≡ true) (take-ends i list) (above-at (ends_of_line list) i (item here) ends.rising there) in
      true≢false (sym above ∙ low)

  pub ends-more : ends_of_line (take (i + 1) list) ≡ ends_of_line (take i list) ++ (here.job, record { lo = here.lo; hi = here.hi }) ∷ []
  ends-more = map_more item list i no_end within
