-- Numbers in rising order that pass a test: one more, and the least of their values.
use Rattle.std.proofs.Common.{◌≡◌, ◌∙◌, ℕ, ◌+◌, ◌<◌, Bool, true, false, ◌&&◌, cond, List, [], ◌∷◌, ◌++◌, length, map, min, Option, Some, None, refl, sym, ap, arith}
use Rattle.std.specs.Prelude.{All, filter, ◌==◌}
use Rattle.std.specs.Option.{option_map_or}
use Rattle.std.proofs.lemmas.Bool.{cond-true, cond-false}
use Rattle.std.proofs.lemmas.List.{append-nil, map-append}
use Rattle.std.proofs.lemmas.List.Elements.{All-filter, All-map, All-weaker, filter-append}
use Rattle.lists.specs.Numbers.{least, numbers_below}
use Rattle.job_model.specs.Table.{Table, IsTable, predecessors}
use Rattle.lists.proofs.Ranges.{numbers_more}

-- the least with one more
pub least_push : (xs : List ℕ) (y : ℕ) → least (xs ++ y ∷ []) ≡ Some (option_map_or (λ t. min t y) (least xs) y)
least_push [] y = refl
least_push (x ∷ xs) y = ap (λ o. Some (option_map_or (λ z. min x z) o x)) (least_push xs y) ∙ ap Some (by_rest (least xs))
  where
    by_rest : (o : Option ℕ) → min x (option_map_or (λ t. min t y) o y) ≡ min (option_map_or (λ z. min x z) o x) y
    by_rest None = refl
    by_rest (Some t) = omega arith

-- two tests, one after the other
pub filter-both : (p q : ℕ → Bool) (xs : List ℕ) → filter (λ x. p x && q x) xs ≡ filter q (filter p xs)
filter-both p q [] = refl
filter-both p q (x ∷ xs) = by_test (p x) (filter-both p q xs)
  where
    by_test : (b : Bool) → filter (λ x. p x && q x) xs ≡ filter q (filter p xs)
        → cond (b && q x) (x ∷ filter (λ x. p x && q x) xs) (filter (λ x. p x && q x) xs) ≡ filter q (cond b (x ∷ filter p xs) (filter p xs))
    by_test true e = ap (λ l. cond (q x) (x ∷ l) l) e
    by_test false e = e

module _ (p : ℕ → Bool) (n : ℕ) where
  pub passing-taken : p n ≡ true → filter p (numbers_below (n + 1)) ≡ filter p (numbers_below n) ++ n ∷ []
  passing-taken passes = ap (filter p) (numbers_more n) ∙ filter-append p (numbers_below n) (n ∷ []) ∙ ap (λ l. filter p (numbers_below n) ++ l) (cond-true (p n) (n ∷ []) [] passes)

  pub passing-left : p n ≡ false → filter p (numbers_below (n + 1)) ≡ filter p (numbers_below n)
  passing-left fails =
      ap (filter p) (numbers_more n) ∙ filter-append p (numbers_below n) (n ∷ []) ∙ ap (λ l. filter p (numbers_below n) ++ l) (cond-false (p n) (n ∷ []) [] fails) ∙ append-nil (filter p (numbers_below n))

  -- the least value of those up to n, where n passes
  pub least-taken : (f : ℕ → ℕ) (before : Option ℕ) (value : ℕ) → p n ≡ true → before ≡ least (map f (filter p (numbers_below n))) → value ≡ f n
      → Some (option_map_or (λ t. min t value) before value) ≡ least (map f (filter p (numbers_below (n + 1))))
  least-taken f before value passes is own =
      let xs = filter p (numbers_below n) in
      rw (is, own) (sym (ap (λ l. least (map f l)) (passing-taken passes) ∙ ap least (map-append f xs (n ∷ [])) ∙ least_push (map f xs) (f n)))

  pub least-left : (f : ℕ → ℕ) (before : Option ℕ) → p n ≡ false → before ≡ least (map f (filter p (numbers_below n))) → before ≡ least (map f (filter p (numbers_below (n + 1))))
  least-left f before fails is = is ∙ ap (λ l. least (map f l)) (sym (passing-left fails))

-- predecessors are jobs of the table
pub predecessors-below : (table : Table) → IsTable table → (j : ℕ) → All (λ i. i < length table.jobs) (predecessors table j)
predecessors-below table t j =
    let starts = All-weaker (λ (e : ℕ × ℕ). (e.0 < length table.jobs) × (e.1 < length table.jobs)) (λ (e : ℕ × ℕ). e.0 < length table.jobs) (λ e both. both.0) table.edges t.edges_in_range in
    All-map (λ i. i < length table.jobs) (λ (e : ℕ × ℕ). e.0) (filter (λ e. e.1 == j) table.edges) (All-filter (λ (e : ℕ × ℕ). e.1 == j) (λ (e : ℕ × ℕ). e.0 < length table.jobs) table.edges starts)
