-- The ends that a step keeps are those of the jobs that are tracked after it.
use Rattle.std.proofs.Common.{◌≡◌, ℕ, ◌<◌, Bool, true, false, cond, List, [], ◌∷◌, filter, refl, ap, sym, ◌∙◌, arith, inl, inr, Less, Equal, Greater}
use Rattle.std.specs.Prelude.{nat_lt, not, ◌==◌}
use Rattle.std.specs.List.{list_all, list_any}
use Rattle.std.specs.Map.{keys_of}
use Rattle.std.specs.Ordering.{nat_cmp, match_ordering}
use Rattle.std.specs.BTreeMap.{insert_entry}
use Rattle.std.proofs.lemmas.Bool.{and_parts, and_from, or_parts, or_left, or_right, or_cases, not-true, not_from_false, ltb-true, lt-ltb, eqb-true, false≢true}
use Rattle.job_sets.specs.Subset.{is_member, with_number, is_rising}
use Rattle.job_model.specs.Table.{Table, successors}
use Rattle.sag_time.specs.Interval.{Interval}
use Rattle.sag_step.specs.State.{is_tracked, tracked_jobs}
use Rattle.sag_step.specs.Next.{still_tracked}
use Rattle.job_sets.proofs.Additions.{is_member-with_number, is_rising-with_number}
use Rattle.job_sets.proofs.Filters.{list_all-filter, is_rising-filter}

-- ---- numbers of the list of ends

keys_of-insert_entry : (es : List (ℕ × Interval)) (j : ℕ) (v : Interval) → keys_of (insert_entry nat_cmp es j v) ≡ with_number j (keys_of es)
keys_of-insert_entry [] j v = refl
keys_of-insert_entry (e ∷ es) j v = at (nat_lt j e.0) (j == e.0) (keys_of-insert_entry es j v)
  where
    at : (b c : Bool) → keys_of (insert_entry nat_cmp es j v) ≡ with_number j (keys_of es) →
        keys_of (match_ordering (cond b Less (cond c Equal Greater)) ((j, v) ∷ e ∷ es) ((e.0, v) ∷ es) (e ∷ insert_entry nat_cmp es j v))
        ≡ cond b (j ∷ e.0 ∷ keys_of es) (cond c (e.0 ∷ keys_of es) (e.0 ∷ with_number j (keys_of es)))
    at true c rest = refl
    at false true rest = refl
    at false false rest = ap (λ ks. e.0 ∷ ks) rest

keys_of-filter : (p : ℕ → Bool) (es : List (ℕ × Interval)) → keys_of (filter (λ e. p e.0) es) ≡ filter p (keys_of es)
keys_of-filter p [] = refl
keys_of-filter p (e ∷ es) = at (p e.0) (keys_of-filter p es)
  where
    at : (b : Bool) → keys_of (filter (λ e. p e.0) es) ≡ filter p (keys_of es) →
        keys_of (cond b (e ∷ filter (λ e. p e.0) es) (filter (λ e. p e.0) es)) ≡ cond b (e.0 ∷ filter p (keys_of es)) (filter p (keys_of es))
    at true rest = ap (λ ks. e.0 ∷ ks) rest
    at false rest = rest

-- ---- what a filter keeps of a rising list and a number in its order

with_number-first : (j : ℕ) (xs : List ℕ) → list_all (nat_lt j) xs ≡ true → with_number j xs ≡ j ∷ xs
with_number-first j [] above = refl
with_number-first j (x ∷ xs) above =
    ap (λ b. cond b (j ∷ x ∷ xs) (cond (j == x) (x ∷ xs) (x ∷ with_number j xs))) (and_parts (nat_lt j x) (list_all (nat_lt j) xs) above).0

list_all-above : (j k : ℕ) (xs : List ℕ) → j < k → list_all (nat_lt k) xs ≡ true → list_all (nat_lt j) xs ≡ true
list_all-above j k [] less all = refl
list_all-above j k (x ∷ xs) less all =
    let parts = and_parts (nat_lt k x) (list_all (nat_lt k) xs) all in
    and_from (nat_lt j x) (list_all (nat_lt j) xs) (lt-ltb j x (omega (arith, less, ltb-true k x parts.0))) (list_all-above j k xs less parts.1)

pub filter-with_number : (p : ℕ → Bool) (j : ℕ) (xs : List ℕ) → is_rising xs ≡ true → filter p (with_number j xs) ≡ cond (p j) (with_number j (filter p xs)) (filter p xs)
filter-with_number p j [] rising = refl
filter-with_number p j (k ∷ ks) rising =
    let parts = and_parts (list_all (nat_lt k) ks) (is_rising ks) rising in
    at (nat_lt j k) (j == k) refl refl
    (λ less. list_all-filter (nat_lt j) p (k ∷ ks) (and_from (nat_lt j k) (list_all (nat_lt j) ks) less (list_all-above j k ks (ltb-true j k less) parts.0)))
    (filter-with_number p j ks parts.1)
  where
    -- where k is kept, and j is not below it
    behind : nat_lt j k ≡ false → with_number j (k ∷ filter p ks) ≡ cond (j == k) (k ∷ filter p ks) (k ∷ with_number j (filter p ks))
    behind less = ap (λ b. cond b (j ∷ k ∷ filter p ks) (cond (j == k) (k ∷ filter p ks) (k ∷ with_number j (filter p ks)))) less

    -- j is there already
    there : (d e : Bool) → p j ≡ d → p k ≡ e → (j == k) ≡ true → with_number j (k ∷ filter p ks) ≡ k ∷ filter p ks →
        cond e (k ∷ filter p ks) (filter p ks) ≡ cond d (with_number j (cond e (k ∷ filter p ks) (filter p ks))) (cond e (k ∷ filter p ks) (filter p ks))
    there false e own other same stays = refl
    there true true own other same stays = sym stays
    there true false own other same stays = absurd (false≢true (sym other ∙ ap p (sym (eqb-true j k same)) ∙ own))

    -- j comes later
    later : (d e : Bool) → filter p (with_number j ks) ≡ cond d (with_number j (filter p ks)) (filter p ks) → with_number j (k ∷ filter p ks) ≡ k ∷ with_number j (filter p ks) →
        cond e (k ∷ filter p (with_number j ks)) (filter p (with_number j ks)) ≡ cond d (with_number j (cond e (k ∷ filter p ks) (filter p ks))) (cond e (k ∷ filter p ks) (filter p ks))
    later true true rest after = ap (λ zs. k ∷ zs) rest ∙ sym after
    later true false rest after = rest
    later false true rest after = ap (λ zs. k ∷ zs) rest
    later false false rest after = rest

    at : (b c : Bool) → nat_lt j k ≡ b → (j == k) ≡ c → (nat_lt j k ≡ true → list_all (nat_lt j) (filter p (k ∷ ks)) ≡ true) →
        filter p (with_number j ks) ≡ cond (p j) (with_number j (filter p ks)) (filter p ks) →
        filter p (cond b (j ∷ k ∷ ks) (cond c (k ∷ ks) (k ∷ with_number j ks))) ≡ cond (p j) (with_number j (filter p (k ∷ ks))) (filter p (k ∷ ks))
    at true c less same above rest = ap (λ zs. cond (p j) zs (filter p (k ∷ ks))) (sym (with_number-first j (filter p (k ∷ ks)) (above less)))
    at false true less same above rest =
        there (p j) (p k) refl refl same (behind less ∙ ap (λ c. cond c (k ∷ filter p ks) (k ∷ with_number j (filter p ks))) same)
    at false false less same above rest =
        later (p j) (p k) rest (behind less ∙ ap (λ c. cond c (k ∷ filter p ks) (k ∷ with_number j (filter p ks))) same)

-- a filter of a filter by a weaker test
filter-filter : (p q : ℕ → Bool) → ((i : ℕ) → p i ≡ true → q i ≡ true) → (xs : List ℕ) → filter p (filter q xs) ≡ filter p xs
filter-filter p q weaker [] = refl
filter-filter p q weaker (x ∷ xs) = at (p x) (q x) refl refl (filter-filter p q weaker xs)
  where
    at : (b c : Bool) → p x ≡ b → q x ≡ c → filter p (filter q xs) ≡ filter p xs → filter p (cond c (x ∷ filter q xs) (filter q xs)) ≡ cond b (x ∷ filter p xs) (filter p xs)
    at true true own other rest = ap (λ b. cond b (x ∷ filter p (filter q xs)) (filter p (filter q xs))) own ∙ ap (λ zs. x ∷ zs) rest
    at true false own other rest = absurd (false≢true (sym other ∙ weaker x own))
    at false true own other rest = ap (λ b. cond b (x ∷ filter p (filter q xs)) (filter p (filter q xs))) own ∙ rest
    at false false own other rest = rest

-- ---- tracked jobs

list_any-weaker : (p q : ℕ → Bool) → ((i : ℕ) → p i ≡ true → q i ≡ true) → (xs : List ℕ) → list_any p xs ≡ true → list_any q xs ≡ true
list_any-weaker p q weaker [] some = some
list_any-weaker p q weaker (x ∷ xs) some =
    elim (or_cases (p x) (list_any p xs) some) [
      | inl here ↦ or_left (q x) (list_any q xs) (weaker x here)
      | inr rest ↦ or_right (q x) (list_any q xs) (list_any-weaker p q weaker xs rest)
    ]

module _ (table : Table) (set : List ℕ) (j : ℕ) where
  undispatched_before : (k : ℕ) → not (is_member k (with_number j set)) ≡ true → not (is_member k set) ≡ true
  undispatched_before k out =
      let none = or_parts (j == k) (is_member k set) (sym (is_member-with_number k j set) ∙ not-true (is_member k (with_number j set)) out) in
      not_from_false (is_member k set) none.1

  -- who is tracked after a step was tracked before it
  tracked_before : (i : ℕ) → is_tracked table (with_number j set) i ≡ true → is_tracked table set i ≡ true
  tracked_before i = list_any-weaker (λ k. not (is_member k (with_number j set))) (λ k. not (is_member k set)) undispatched_before (successors table i)

  -- who is tracked with one job more: the job and who was tracked before, as far as they still are
  pub tracked_after : is_rising set ≡ true → filter (is_tracked table (with_number j set)) (with_number j (tracked_jobs table set)) ≡ tracked_jobs table (with_number j set)
  tracked_after rising =
      let p : ℕ → Bool = is_tracked table (with_number j set) in
      let q : ℕ → Bool = is_tracked table set in
      filter-with_number p j (filter q set) (is_rising-filter q set rising)
      ∙ ap (λ ks. cond (p j) (with_number j ks) ks) (filter-filter p q tracked_before set)
      ∙ sym (filter-with_number p j set rising)

  pub keys_of-still_tracked : (ends : List (ℕ × Interval)) (v : Interval) → is_rising set ≡ true → keys_of ends ≡ tracked_jobs table set →
      keys_of (still_tracked table (with_number j set) (insert_entry nat_cmp ends j v)) ≡ tracked_jobs table (with_number j set)
  keys_of-still_tracked ends v rising tracked =
      let p : ℕ → Bool = is_tracked table (with_number j set) in
      keys_of-filter p (insert_entry nat_cmp ends j v)
      ∙ ap (filter p) (keys_of-insert_entry ends j v ∙ ap (with_number j) tracked)
      ∙ tracked_after rising

-- the list that a step leaves rises
pub is_rising-still_tracked : (table : Table) (set : List ℕ) (ends : List (ℕ × Interval)) (j : ℕ) (v : Interval) → is_rising (keys_of ends) ≡ true →
    is_rising (keys_of (still_tracked table set (insert_entry nat_cmp ends j v))) ≡ true
is_rising-still_tracked table set ends j v rising =
    ap is_rising (keys_of-filter (is_tracked table set) (insert_entry nat_cmp ends j v) ∙ ap (filter (is_tracked table set)) (keys_of-insert_entry ends j v))
    ∙ is_rising-filter (is_tracked table set) (with_number j (keys_of ends)) (is_rising-with_number j (keys_of ends) rising)
