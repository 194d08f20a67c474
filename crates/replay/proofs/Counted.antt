-- Counts over the predecessors of a job, through a dispatch.
--     same_edges                         a job is as often among b's successors as b is among its predecessors
--     missing_less, latest_more          a dispatch of b takes b from those that are missing, and adds its finish
--     none_counted, all_counted          where none is dispatched, and where all are
use Rattle.std.proofs.Common.{◌≡◌, ◌≢◌, ℕ, ◌+◌, ◌<◌, ◌≤◌, ◌⊎◌, inl, inr, Bool, true, false, cond, List, [], ◌∷◌, length, map, max, refl, ap, ◌∙◌, arith}
use Rattle.std.specs.Prelude.{All, count_by, filter, not, ◌==◌, ◌&&◌}
use Rattle.std.specs.List.{AllByRecursion}
use Rattle.std.proofs.lemmas.Bool.{cases_lt, cases_eq, eq-eqb, ne_eqb, cond-true, cond-false}
use Rattle.std.proofs.lemmas.List.Elements.{All-tail}
use Rattle.std.proofs.lemmas.List.Sums.{sum_by-cons}
use Rattle.lists.specs.Numbers.{greatest}

and_turned : (a b : Bool) → ◌≡◌ {A = ℕ} (cond (a && b) 1 0) (cond (b && a) 1 0)
and_turned true true = refl
and_turned true false = refl
and_turned false true = refl
and_turned false false = refl

-- a count after a step of a filter
kept : (p : Bool) (f : ℕ × ℕ → ℕ) (e : ℕ × ℕ) (edges : List (ℕ × ℕ)) (test : ℕ → Bool) →
    count_by test (map f (cond p (e ∷ edges) edges)) ≡ cond (p && test (f e)) 1 0 + count_by test (map f edges)
kept true f e edges test = sum_by-cons (λ x. cond (test x) 1 0) (f e) (map f edges)
kept false f e edges test = omega arith

-- the edges from b to j are those to j from b
pub same_edges : (b j : ℕ) (edges : List (ℕ × ℕ)) →
    count_by (λ s. s == j) (map (λ e. e.1) (filter (λ e. e.0 == b) edges)) ≡ count_by (λ i. i == b) (map (λ e. e.0) (filter (λ e. e.1 == j) edges))
same_edges b j [] = refl
same_edges b j (e ∷ edges) =
    omega (
      arith,
      kept (e.0 == b) (λ e. e.1) e (filter (λ e. e.0 == b) edges) (λ s. s == j),
      kept (e.1 == j) (λ e. e.0) e (filter (λ e. e.1 == j) edges) (λ i. i == b),
      and_turned (e.0 == b) (e.1 == j),
      same_edges b j edges,
    )

-- the greatest after a step of a filter
top : (p : Bool) (f : ℕ → ℕ) (x : ℕ) (xs : List ℕ) → greatest (map f (cond p (x ∷ xs) xs)) ≡ max (cond p (f x) 0) (greatest (map f xs))
top true f x xs = refl
top false f x xs = omega arith

-- a number that is raised to another, if it is counted
abbrev pub raised : ℕ → ℕ → ℕ → ℕ
raised count to n = cond (count == 0) n (max n to)

pub raised_none : (count to n : ℕ) → count ≡ 0 → raised count to n ≡ n
raised_none count to n e = cond-true (count == 0) n (max n to) (eq-eqb count 0 e)

pub raised_some : (count to n : ℕ) → 1 ≤ count → raised count to n ≡ max n to
raised_some count to n some = cond-false (count == 0) n (max n to) (ne_eqb count 0 (λ e. omega (arith, e, some)))

-- the greatest with one more number, which is the one to raise to or another
raised_more : (head_more head one count to rest rest_more total whole : ℕ) → rest_more ≡ raised count to rest → total ≡ one + count → whole ≡ max head rest →
    ((head_more ≡ to) × (head ≡ 0) × (one ≡ 1)) ⊎ ((head_more ≡ head) × (one ≡ 0)) → (0 < count) ⊎ (count ≤ 0) → max head_more rest_more ≡ raised total to whole
raised_more head_more head one count to rest rest_more total whole e f g (inl h) (inl some) =
    omega (arith, e, f, g, h.0, h.1, h.2, raised_some count to rest some, raised_some total to whole (omega (arith, f, some)))
raised_more head_more head one count to rest rest_more total whole e f g (inl h) (inr none) =
    omega (arith, e, f, g, h.0, h.1, h.2, raised_none count to rest (omega (arith, none)), raised_some total to whole (omega (arith, f, h.2)))
raised_more head_more head one count to rest rest_more total whole e f g (inr h) (inl some) =
    omega (arith, e, f, g, h.0, h.1, raised_some count to rest some, raised_some total to whole (omega (arith, f, some)))
raised_more head_more head one count to rest rest_more total whole e f g (inr h) (inr none) =
    omega (arith, e, f, g, h.0, h.1, raised_none count to rest (omega (arith, none)), raised_none total to whole (omega (arith, f, h.1, none)))

module _ (done more : ℕ → Bool) (b : ℕ) (waits : done b ≡ false) (is_done : more b ≡ true) (other : (i : ℕ) → i ≢ b → more i ≡ done i) where
  -- a dispatch of b takes it from the count
  pub missing_less : (xs : List ℕ) → count_by (λ i. not (done i)) xs ≡ count_by (λ i. not (more i)) xs + count_by (λ i. i == b) xs
  missing_less [] = refl
  missing_less (x ∷ xs) =
      omega (
        arith,
        missing_less xs,
        by (cases_eq x b),
        sum_by-cons (λ i. cond (not (done i)) 1 0) x xs,
        sum_by-cons (λ i. cond (not (more i)) 1 0) x xs,
        sum_by-cons (λ i. cond (i == b) 1 0) x xs,
      )
    where
      by : (x ≡ b) ⊎ (x ≢ b) → cond (not (done x)) 1 0 ≡ cond (not (more x)) 1 0 + cond (x == b) 1 0
      by (inl e) =
          let was : ◌≡◌ {A = ℕ} (cond (not (done x)) 1 0) 1 = ap (λ t. cond (not t) 1 0) (ap done e ∙ waits) in
          let is : ◌≡◌ {A = ℕ} (cond (not (more x)) 1 0) 0 = ap (λ t. cond (not t) 1 0) (ap more e ∙ is_done) in
          let one : ◌≡◌ {A = ℕ} (cond (x == b) 1 0) 1 = cond-true (x == b) 1 0 (eq-eqb x b e) in
          omega (arith, was, is, one)
      by (inr differ) =
          let same : ◌≡◌ {A = ℕ} (cond (not (more x)) 1 0) (cond (not (done x)) 1 0) = ap (λ t. cond (not t) 1 0) (other x differ) in
          let none : ◌≡◌ {A = ℕ} (cond (x == b) 1 0) 0 = cond-false (x == b) 1 0 (ne_eqb x b differ) in
          omega (arith, same, none)

  module _ (fin fin_more : ℕ → ℕ) (same : (i : ℕ) → i ≢ b → fin_more i ≡ fin i) where
    -- and adds its finish to those of the others
    pub latest_more : (xs : List ℕ) → greatest (map fin_more (filter more xs)) ≡ raised (count_by (λ i. i == b) xs) (fin_more b) (greatest (map fin (filter done xs)))
    latest_more [] = refl
    latest_more (x ∷ xs) =
        top (more x) fin_more x (filter more xs)
        ∙ raised_more (cond (more x) (fin_more x) 0) (cond (done x) (fin x) 0) (cond (x == b) 1 0) (count_by (λ i. i == b) xs) (fin_more b)
        (greatest (map fin (filter done xs))) (greatest (map fin_more (filter more xs))) (count_by (λ i. i == b) (x ∷ xs)) (greatest (map fin (filter done (x ∷ xs))))
        (latest_more xs) (sum_by-cons (λ i. cond (i == b) 1 0) x xs) (top (done x) fin x (filter done xs)) (by (cases_eq x b)) (cases_lt 0 (count_by (λ i. i == b) xs))
      where
        by : (x ≡ b) ⊎ (x ≢ b) → ((cond (more x) (fin_more x) 0 ≡ fin_more b) × (cond (done x) (fin x) 0 ≡ 0) × (◌≡◌ {A = ℕ} (cond (x == b) 1 0) 1))
            ⊎ ((cond (more x) (fin_more x) 0 ≡ cond (done x) (fin x) 0) × (◌≡◌ {A = ℕ} (cond (x == b) 1 0) 0))
        by (inl e) = inl (
          cond-true (more x) (fin_more x) 0 (ap more e ∙ is_done) ∙ ap fin_more e,
          cond-false (done x) (fin x) 0 (ap done e ∙ waits),
          cond-true (x == b) 1 0 (eq-eqb x b e),
        )
        by (inr differ) = inr (
          ap (λ t. cond t (fin_more x) 0) (other x differ) ∙ ap (λ n. cond (done x) n 0) (same x differ),
          cond-false (x == b) 1 0 (ne_eqb x b differ),
        )

    -- the same with the release
    pub ready_more : (release : ℕ) (xs : List ℕ) → max release (greatest (map fin_more (filter more xs))) ≡ raised (count_by (λ i. i == b) xs) (fin_more b) (max release (greatest (map fin (filter done xs))))
    ready_more release xs =
        raised_more release release 0 (count_by (λ i. i == b) xs) (fin_more b) (greatest (map fin (filter done xs))) (greatest (map fin_more (filter more xs))) (count_by (λ i. i == b) xs)
        (max release (greatest (map fin (filter done xs)))) (latest_more xs) (omega arith) refl (inr (refl, refl)) (cases_lt 0 (count_by (λ i. i == b) xs))

module _ (done : ℕ → Bool) where
  -- where none is dispatched, all are missing
  pub none_counted : (xs : List ℕ) → All (λ i. done i ≡ false) xs → count_by (λ i. not (done i)) xs ≡ length xs
  none_counted [] none = refl
  none_counted (x ∷ xs) none =
      let here : ◌≡◌ {A = ℕ} (cond (not (done x)) 1 0) 1 = ap (λ t. cond (not t) 1 0) (none 0 0 (omega arith)) in
      omega (arith, sum_by-cons (λ i. cond (not (done i)) 1 0) x xs, here, none_counted xs (All-tail (λ i. done i ≡ false) x xs none))

  pub none_kept : (xs : List ℕ) → All (λ i. done i ≡ false) xs → filter done xs ≡ []
  none_kept [] none = refl
  none_kept (x ∷ xs) none =
      ap (λ t. cond t (x ∷ filter done xs) (filter done xs)) (none 0 0 (omega arith)) ∙ none_kept xs (All-tail (λ i. done i ≡ false) x xs none)

  -- where none is missing, all are dispatched
  pub all_done : (xs : List ℕ) → count_by (λ i. not (done i)) xs ≡ 0 → AllByRecursion (λ i. done i ≡ true) xs
  all_done [] none = tt
  all_done (x ∷ xs) none = by (done x) refl (sum_by-cons (λ i. cond (not (done i)) 1 0) x xs) (all_done xs)
    where
      by : (t : Bool) → done x ≡ t → count_by (λ i. not (done i)) (x ∷ xs) ≡ cond (not t) 1 0 + count_by (λ i. not (done i)) xs →
          (count_by (λ i. not (done i)) xs ≡ 0 → AllByRecursion (λ i. done i ≡ true) xs) → AllByRecursion (λ i. done i ≡ true) (x ∷ xs)
      by true e split rest = (e, rest (omega (arith, split, none)))
      by false e split rest = absurd (omega (arith, split, none))

  pub all_counted : (xs : List ℕ) → AllByRecursion (λ i. done i ≡ true) xs → count_by (λ i. not (done i)) xs ≡ 0
  all_counted [] all = refl
  all_counted (x ∷ xs) all =
      let here : ◌≡◌ {A = ℕ} (cond (not (done x)) 1 0) 0 = ap (λ t. cond (not t) 1 0) all.0 in
      omega (arith, sum_by-cons (λ i. cond (not (done i)) 1 0) x xs, here, all_counted xs all.1)

  pub all_kept : (xs : List ℕ) → AllByRecursion (λ i. done i ≡ true) xs → filter done xs ≡ xs
  all_kept [] all = refl
  all_kept (x ∷ xs) all = ap (λ t. cond t (x ∷ filter done xs) (filter done xs)) all.0 ∙ ap (λ ys. x ∷ ys) (all_kept xs all.1)
