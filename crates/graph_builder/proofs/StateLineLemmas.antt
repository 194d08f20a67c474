-- The parts of a state's line, one by one.
use Rattle.std.proofs.Common.{◌≡◌, ℕ, suc, zero, Bool, true, false, cond, List, [], ◌∷◌, ◌++◌, ◌+◌, ◌<◌, ◌≤◌, drop, filter, length, map, refl, sym, ap, ◌∙◌, subst, arith, add-one, Some, slice_get}
use Rattle.std.specs.Prelude.{◌&&◌, nat_le, nat_lt, slice_index}
use Rattle.std.specs.List.{list_all}
use Rattle.std.specs.Map.{keys_of}
use Rattle.std.proofs.lemmas.Bool.{and_parts, ltb-true}
use Rattle.job_sets.specs.Subset.{is_member, is_rising}
use Rattle.job_sets.proofs.Additions.{same_members}
use Rattle.job_sets.proofs.Filters.{is_member-of_filter, is_rising-filter}
use Rattle.job_sets.proofs.Members.{list_all-member}
use Rattle.lists.specs.Zipped.{zip_with}
use Rattle.sag_time.specs.Interval.{Interval}
use Rattle.sag_step.specs.State.{SystemState}
use Rattle.cert_text.specs.declared.line.Pair.{Pair}
use Rattle.cert_text.specs.declared.line.EndOf.{EndOf}
use Rattle.graph_builder.specs.Writing.{AreListed}
use Rattle.graph_builder.proofs.TextLemmas.{dropped}

-- ---- pairs

abbrev pub pairs_from : List ℕ → List ℕ → List Pair
pairs_from low high = map (λ (s : Interval). record { lo = s.lo; hi = s.hi }) (zip_with (λ lo hi. record { lo = lo; hi = hi }) low high)

index_drop : (xs : List ℕ) (x : ℕ) → x < length xs → drop x xs ≡ slice_index xs x ∷ drop (suc x) xs
index_drop [] x lt = absurd (omega arith)
index_drop (y ∷ ys) zero lt = refl
index_drop (y ∷ ys) (suc x) lt = index_drop ys x (omega arith)

index_next : (xs : List ℕ) (x : ℕ) → x < length xs → drop x xs ≡ slice_index xs x ∷ drop (x + 1) xs
index_next xs x lt = index_drop xs x lt ∙ ap (λ n. slice_index xs x ∷ drop n xs) (sym (add-one x))

pub pairs_next : (low high : List ℕ) (x lo hi : ℕ) → x < length low → length low ≡ length high → lo ≡ slice_index low x → hi ≡ slice_index high x →
    pairs_from (drop x low) (drop x high) ≡ record { lo = lo; hi = hi } ∷ pairs_from (drop (x + 1) low) (drop (x + 1) high)
pairs_next low high x lo hi lt same lo-is hi-is =
    let also : x < length high = omega (arith, lt, same) in
    let one : drop x low ≡ lo ∷ drop (x + 1) low = index_next low x lt ∙ ap (λ n. n ∷ drop (x + 1) low) (sym lo-is) in
    let two : drop x high ≡ hi ∷ drop (x + 1) high = index_next high x also ∙ ap (λ n. n ∷ drop (x + 1) high) (sym hi-is) in
    λ i. pairs_from (one i) (two i)

pub pairs_past : (low high : List ℕ) (x : ℕ) → length low ≤ x → pairs_from (drop x low) (drop x high) ≡ []
pairs_past low high x past = ap (λ l. pairs_from l (drop x high)) (dropped x low past)

-- ---- ends

abbrev pub end_line : ℕ × Interval → EndOf
end_line e = record { job = e.0; lo = e.1.lo; hi = e.1.hi }

-- ---- last jobs

-- the job of an item is in the range of all
pub key_below : (n : ℕ) (es : List (ℕ × Interval)) (i : ℕ) (e : ℕ × Interval) → list_all (λ j. nat_lt j n) (keys_of es) ≡ true → slice_get es i ≡ Some e → e.0 < n
key_below n [] i e all here = absurd (cc)
key_below n (d ∷ ds) zero e all here =
    let same : d ≡ e = cc in
    let parts = and_parts (nat_lt d.0 n) (list_all (λ j. nat_lt j n) (keys_of ds)) all in
    subst (λ (x : ℕ × Interval). x.0 < n) same (ltb-true d.0 n parts.0)
key_below n (d ∷ ds) (suc i) e all here =
    key_below n ds i e (and_parts (nat_lt d.0 n) (list_all (λ j. nat_lt j n) (keys_of ds)) all).1 here

pub last_next : (p : ℕ → Bool) (k : ℕ) (ks : List ℕ) → filter p (k ∷ ks) ≡ filter p (k ∷ []) ++ filter p ks
last_next p k ks = by (p k)
  where
    by : (b : Bool) → cond b (k ∷ filter p ks) (filter p ks) ≡ cond b (k ∷ []) [] ++ filter p ks
    by true = refl
    by false = refl

-- those of the listed jobs that are last are all
pub last_whole : (s : SystemState) → AreListed s → is_rising (keys_of s.ends) ≡ true → filter (λ j. is_member j s.last.members) (keys_of s.ends) ≡ s.last.members
last_whole s listed rising =
    same_members (filter (λ j. is_member j s.last.members) (keys_of s.ends)) s.last.members
    (is_rising-filter (λ j. is_member j s.last.members) (keys_of s.ends) rising) listed.rise
    (λ k. is_member-of_filter (λ j. is_member j s.last.members) (keys_of s.ends) k
    ∙ by (is_member k s.last.members) (is_member k (keys_of s.ends)) (λ there. list_all-member (λ j. is_member j (keys_of s.ends)) s.last.members k listed.within there))
  where
    by : (a b : Bool) → (a ≡ true → b ≡ true) → (a && b) ≡ a
    by true b h = h refl
    by false b h = refl
