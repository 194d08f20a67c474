-- Different jobs on different cores, counted.
--     AreDistinct xs              no number stands twice
--     distinct_cores              numbers on different cores, each of which passes, are no more than the cores that pass
--     distinct-filter             what a filter keeps stays distinct
--     distinct_predecessors       the predecessors of a job are different jobs
use Rattle.std.proofs.Common.{◌≡◌, ◌≢◌, ℕ, ◌+◌, ◌<◌, ◌≤◌, Bool, true, false, cond, not, List, [], ◌∷◌, length, map, filter, refl, ap, arith, ⊎_elim, sym, ◌∙◌, Less, Equal}
use Rattle.std.specs.Prelude.{◌==◌, ◌&&◌}
use Rattle.std.specs.List.{AllByRecursion}
use Rattle.std.specs.List.Sorted.{IsStrictlySortedBy}
use Rattle.std.specs.Ordering.{nat_cmp, ordering_then}
use Rattle.std.specs.Cmp.{nat_cmp_total}
use Rattle.std.proofs.lemmas.Cmp.{tied_itself}
use Rattle.std.proofs.lemmas.Bool.{and_parts, and_from, and_right, or_from, eqb-true, eq-eqb, ne_eqb, not_from_true, not_from_false, cases_Bool, false≢true}
use Rattle.job_sets.specs.Subset.{is_member}
use Rattle.job_sets.proofs.Members.{is_member-first, is_member-rest, is_member-from_filter}
use Rattle.job_model.specs.Neighbours.{sources}
use Rattle.job_model.specs.Table.{Table, IsTable, edge_cmp, predecessors}
use Rattle.sag_time.proofs.Counts.{one_if, one_if-true, one_if-false}
use Rattle.run_cover.specs.Covers.{cores_where}
use Rattle.run_cover.proofs.CoreCounts.{one_core_changes}

-- no number stands twice
abbrev pub AreDistinct : List ℕ → Type 0
AreDistinct [] = Unit {0}
AreDistinct (x ∷ xs) = (is_member x xs ≡ false) × AreDistinct xs

-- numbers on different cores, each of which passes, are no more than the cores that pass
pub distinct_cores : (m : ℕ) (f : ℕ → ℕ) (q : ℕ → Bool) (ys : List ℕ) → AreDistinct ys → ((i : ℕ) → is_member i ys ≡ true → f i < m) → ((i : ℕ) → is_member i ys ≡ true → q (f i) ≡ true) →
    ((i k : ℕ) → is_member i ys ≡ true → is_member k ys ≡ true → i ≢ k → f i ≢ f k) → length ys ≤ cores_where m q
distinct_cores m f q [] distinct below passes apart = omega arith
distinct_cores m f q (y ∷ ys) distinct below passes apart =
    let rest_q = λ (c : ℕ). q c && not (c == f y) in
    let first : is_member y (y ∷ ys) ≡ true = is_member-first y y ys refl in
    let rest : length ys ≤ cores_where m rest_q = distinct_cores m f rest_q ys distinct.1 (λ i there. below i (is_member-rest i y ys there))
    (λ i there.
    let other : i ≢ y = λ e. false≢true (sym distinct.0 ∙ ap (λ k. is_member k ys) (sym e) ∙ there) in
    and_from (q (f i)) (not (f i == f y)) (passes i (is_member-rest i y ys there))
    (not_from_false (f i == f y) (ne_eqb (f i) (f y) (apart i y (is_member-rest i y ys there) first other))))
    (λ i k there there_k. apart i k (is_member-rest i y ys there) (is_member-rest k y ys there_k)) in
    let change : cores_where m rest_q + one_if (q (f y)) ≤ cores_where m q + one_if (rest_q (f y)) =
    one_core_changes m (f y) q rest_q (below y first) (λ c other e. (and_parts (q c) (not (c == f y)) e).0) in
    let one : one_if (q (f y)) ≡ 1 = one_if-true (q (f y)) (passes y first) in
    let none : one_if (rest_q (f y)) ≡ 0 = one_if-false (rest_q (f y)) (and_right (q (f y)) (not (f y == f y)) (not_from_true (f y == f y) (eq-eqb (f y) (f y) refl))) in
    omega (arith, rest, change, one, none)

-- what a filter keeps stays distinct
pub distinct-filter : (p : ℕ → Bool) (xs : List ℕ) → AreDistinct xs → AreDistinct (filter p xs)
distinct-filter p [] d = tt
distinct-filter p (x ∷ xs) d = at (p x) d.0 (distinct-filter p xs d.1)
  where
    at : (b : Bool) → is_member x xs ≡ false → AreDistinct (filter p xs) → AreDistinct (cond b (x ∷ filter p xs) (filter p xs))
    at true out rest = (
      ⊎_elim
          (λ (there : is_member x (filter p xs) ≡ true). absurd (false≢true (sym out ∙ (is_member-from_filter p xs x there).1)))
          (λ (h : is_member x (filter p xs) ≡ false). h)
          (cases_Bool (is_member x (filter p xs))),
      rest,
    )
    at false out rest = rest

tie : (a b c d : ℕ) → a ≡ c → b ≡ d → edge_cmp (a, b) (c, d) ≡ Equal
tie a b c d e f =
    ap (λ o. ordering_then o (nat_cmp b d)) (ap (nat_cmp a) (sym e) ∙ tied_itself nat_cmp_total a) ∙ ap (nat_cmp b) (sym f) ∙ tied_itself nat_cmp_total b

-- an edge below all others has a source that they have not, of those to one job
absent : (e : ℕ × ℕ) (es : List (ℕ × ℕ)) (j : ℕ) → e.1 ≡ j → AllByRecursion (λ g. edge_cmp e g ≡ Less) es → is_member e.0 (sources es j) ≡ false
absent e [] j is all = refl
absent e (g ∷ gs) j is all = at (g.1 == j) refl all.0 (absent e gs j is all.1)
  where
    at : (b : Bool) → (g.1 == j) ≡ b → edge_cmp e g ≡ Less → is_member e.0 (sources gs j) ≡ false →
        is_member e.0 (map (λ g. g.0) (cond b (g ∷ filter (λ g. g.1 == j) gs) (filter (λ g. g.1 == j) gs))) ≡ false
    at true to less rest = or_from (g.0 == e.0) (is_member e.0 (sources gs j))
        (ne_eqb g.0 e.0 (λ same. less_equal (sym less ∙ tie e.0 e.1 g.0 g.1 (sym same) (is ∙ sym (eqb-true g.1 j to))))) rest
      where
        less_equal : Less ≡ Equal → ⊥
        less_equal e = cc
    at false to less rest = rest

distinct_in : (edges : List (ℕ × ℕ)) (j : ℕ) → IsStrictlySortedBy edge_cmp edges → AreDistinct (sources edges j)
unfolding IsStrictlySortedBy
distinct_in [] j sorted = tt
distinct_in (e ∷ es) j sorted = at (e.1 == j) refl sorted.0 (distinct_in es j sorted.1)
  where
    at : (b : Bool) → (e.1 == j) ≡ b → AllByRecursion (λ g. edge_cmp e g ≡ Less) es → AreDistinct (sources es j) →
        AreDistinct (map (λ g. g.0) (cond b (e ∷ filter (λ g. g.1 == j) es) (filter (λ g. g.1 == j) es)))
    at true to all rest = (absent e es j (eqb-true e.1 j to) all, rest)
    at false to all rest = rest

-- the predecessors of a job are different jobs
pub distinct_predecessors : (table : Table) (j : ℕ) → IsTable table → AreDistinct (predecessors table j)
distinct_predecessors table j is_table = distinct_in table.edges j is_table.edges_rise
