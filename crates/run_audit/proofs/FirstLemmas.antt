-- The first bad job of an order.
use Rattle.std.proofs.Common.{◌≡◌, ℕ, ◌+◌, ◌<◌, ◌≤◌, ◌⊎◌, inl, inr, List, get_or, set, length, max, refl, sym, ap, ◌∙◌, subst, arith}
use Rattle.std.specs.Prelude.{slice_index}
use Rattle.std.proofs.lemmas.Bool.{cases_lt, cases_order}
use Rattle.std.proofs.lemmas.List.{get_or_default}
use Rattle.run_audit.specs.declared.entries.Entry.{Entry}
use Rattle.run_audit.specs.Entries.{core_at, finish_at, start_at}
use Rattle.run_audit.specs.Firsts.{IsCutOff, IsAmongFirst, IsFirst}
use Rattle.run_audit.specs.Orders.{IsBefore, IsOrder, job_in, no_moment, time_in}
use Rattle.run_audit.specs.Waits.{AreCoreEnds}
use Rattle.run_audit.proofs.EndLemmas.{AreCoreEnds-more}

before-one-way : (a b i j : ℕ) → IsBefore a i b j → IsBefore b j a i → ⊥
before-one-way a b i j (inl p) (inl q) = omega (arith, p, q)
before-one-way a b i j (inl p) (inr q) = omega (arith, p, q.0)
before-one-way a b i j (inr p) (inl q) = omega (arith, p.0, q)
before-one-way a b i j (inr p) (inr q) = omega (arith, p.1, q.1)

pub done_more : (order : List (ℕ × ℕ)) (k i : ℕ) → IsAmongFirst order (k + 1) i → IsAmongFirst order k i ⊎ (i ≡ job_in order k)
done_more order k i (p, less, below, is) = by (cases_lt p k)
  where
    by : (p < k) ⊎ (k ≤ p) → IsAmongFirst order k i ⊎ (i ≡ job_in order k)
    by (inl early) = inl (p, early, below, is)
    by (inr late) = inr (sym is ∙ ap (job_in order) (omega (arith, less, late)))

pub done_kept : (order : List (ℕ × ℕ)) (k i : ℕ) → IsAmongFirst order k i → IsAmongFirst order (k + 1) i
done_kept order k i (p, less, below, is) = (p, omega (arith, less), below, is)

pub done_last : (order : List (ℕ × ℕ)) (k : ℕ) → k < length order → IsAmongFirst order (k + 1) (job_in order k)
done_last order k below = (k, omega arith, below, refl)

module _ (entries : List Entry) (order : List (ℕ × ℕ)) (is_order : IsOrder (start_at entries) (length entries) order) where
  -- places are by (start, number)
  pub before_at : (p k : ℕ) → p < k → k < length order → IsBefore (start_at entries (job_in order p)) (job_in order p) (start_at entries (job_in order k)) (job_in order k)
  before_at p k less below =
      subst (λ t. IsBefore t (job_in order p) (start_at entries (job_in order k)) (job_in order k)) (is_order.own p (omega (arith, less, below)))
      (subst (λ t. IsBefore (time_in order p) (job_in order p) t (job_in order k)) (is_order.own k below) (is_order.rising p k less below))

  -- what comes earlier has an earlier place
  pub earlier_place : (i k : ℕ) → i < length entries → k < length order → IsBefore (start_at entries i) i (start_at entries (job_in order k)) (job_in order k) → IsAmongFirst order k i
  earlier_place i k is_job below earlier = by (is_order.place i is_job)
    where
      by : (p : ℕ) × (p < length order) × (job_in order p ≡ i) → IsAmongFirst order k i
      by (p, there, is) = at (cases_order p k)
        where
          same : job_in order k ≡ i → ⊥
          same e = before-one-way _ _ i i (rw e at earlier) (rw e at earlier)

          at : (p ≡ k) ⊎ ((p < k) ⊎ (k < p)) → IsAmongFirst order k i
          at (inl e) = absurd (same (ap (job_in order) (sym e) ∙ is))
          at (inr (inl less)) = (p, less, there, is)
          at (inr (inr more)) =
              let later : IsBefore (start_at entries (job_in order k)) (job_in order k) (start_at entries i) i = rw is at (before_at k p more there) in
              absurd (before-one-way _ _ i (job_in order k) earlier later)

  pub first_found : (Bad : ℕ → Type 0) (k : ℕ) → k < length order → ((p : ℕ) → p < k → ¬ Bad (job_in order p)) → Bad (job_in order k) → IsFirst entries Bad (job_in order k)
  first_found Bad k below none bad = record {
    is_job = is_order.is_job k below;
    bad = bad;
    first = λ i is_job earlier is_bad. not_earlier i (earlier_place i k is_job below earlier) is_bad;
  }
    where
      not_earlier : (i : ℕ) → IsAmongFirst order k i → Bad i → ⊥
      not_earlier i (p, less, there, is) is_bad = none p less (subst Bad (sym is) is_bad)

  pub none_found : (Bad : ℕ → Type 0) (k : ℕ) → length order ≤ k → ((p : ℕ) → p < k → ¬ Bad (job_in order p)) → (j : ℕ) → j < length entries → ¬ Bad j
  none_found Bad k all none j is_job is_bad = by (is_order.place j is_job)
    where
      by : (p : ℕ) × (p < length order) × (job_in order p ≡ j) → ⊥
      by (p, there, is) = none p (omega (arith, there, all)) (subst Bad (sym is) is_bad)

  -- the end of the core tells whether a job is cut off
  pub cut_off : (m k : ℕ) (ends : List ℕ) → k < length order → core_at entries (job_in order k) < m → AreCoreEnds entries m (IsAmongFirst order k) ends →
      start_at entries (job_in order k) < slice_index ends (core_at entries (job_in order k)) → IsCutOff entries (job_in order k)
  cut_off m k ends below core are late = by (are.there (core_at entries (job_in order k)) core)
    where
      by : (slice_index ends (core_at entries (job_in order k)) ≡ 0)
          ⊎ ((i : ℕ) × IsAmongFirst order k i × (core_at entries i ≡ core_at entries (job_in order k)) × (finish_at entries i ≡ slice_index ends (core_at entries (job_in order k)))) →
          IsCutOff entries (job_in order k)
      by (inl none) = absurd (omega (arith, none, late))
      by (inr (i, (p, less, there, is), same, ends_then)) = record {
        by = i;
        is_job = subst (λ x. x < length entries) is (is_order.is_job p there);
        earlier = subst (λ x. IsBefore (start_at entries x) x (start_at entries (job_in order k)) (job_in order k)) is (before_at p k less below);
        same_core = same;
        running = omega (arith, ends_then, late);
      }

  pub not_cut_off : (m k : ℕ) (ends : List ℕ) → k < length order → core_at entries (job_in order k) < m → AreCoreEnds entries m (IsAmongFirst order k) ends →
      slice_index ends (core_at entries (job_in order k)) ≤ start_at entries (job_in order k) → ¬ IsCutOff entries (job_in order k)
  not_cut_off m k ends below core are free cut =
      let done = earlier_place cut.by k cut.is_job below cut.earlier in
      let last : finish_at entries cut.by ≤ slice_index ends (core_at entries cut.by) = are.last cut.by done (omega (arith, cut.same_core, core)) in
      omega (arith, last, ap (slice_index ends) cut.same_core, free, cut.running)

-- the item of a loop over the order
pub item_job : (order : List (ℕ × ℕ)) (k : ℕ) (x : ℕ × ℕ) (n : ℕ) → k < length order → x ≡ get_or order k x → n ≡ x.1 → n ≡ job_in order k
item_job order k x n below is e = e ∙ ap (λ (y : ℕ × ℕ). y.1) (is ∙ get_or_default order k x no_moment below)

pub item_time : (order : List (ℕ × ℕ)) (k : ℕ) (x : ℕ × ℕ) → k < length order → x ≡ get_or order k x → x.0 ≡ time_in order k
item_time order k x below is = ap (λ (y : ℕ × ℕ). y.0) (is ∙ get_or_default order k x no_moment below)

pub first_item : (entries : List Entry) (order : List (ℕ × ℕ)) → IsOrder (start_at entries) (length entries) order → (Bad : ℕ → Type 0) (k n : ℕ) → k < length order → n ≡ job_in order k →
    ((p : ℕ) → p < k → ¬ Bad (job_in order p)) → Bad n → IsFirst entries Bad n
first_item entries order is_order Bad k n below e none bad =
    subst (λ j. IsFirst entries Bad j) (sym e) (first_found entries order is_order Bad k below none (subst Bad e bad))

pub none_more : (order : List (ℕ × ℕ)) (Bad : ℕ → Type 0) (k : ℕ) → ((p : ℕ) → p < k → ¬ Bad (job_in order p)) → ¬ Bad (job_in order k) → (p : ℕ) → p < k + 1 → ¬ Bad (job_in order p)
none_more order Bad k none not_here p less = by (cases_lt p k)
  where
    by : (p < k) ⊎ (k ≤ p) → ¬ Bad (job_in order p)
    by (inl early) = none p early
    by (inr late) = λ bad. not_here (subst (λ x. Bad (job_in order x)) (omega (arith, less, late)) bad)

-- The loop over the order: job j of place k, its core, and when that core is free.
module _ (entries : List Entry) (order : List (ℕ × ℕ)) (is_order : IsOrder (start_at entries) (length entries) order) (m k : ℕ) (ends : List ℕ) (j core end : ℕ)
    (below : k < length order) (own : j ≡ job_in order k) (at : core ≡ core_at entries j) (is : end ≡ get_or ends core end)
    (on_core : core_at entries (job_in order k) < m) (are : AreCoreEnds entries m (IsAmongFirst order k) ends) where
  is_end : end ≡ slice_index ends (core_at entries (job_in order k))
  is_end =
      let in_range : core < length ends = omega (arith, at, ap (core_at entries) own, on_core, are.each_core) in
      is ∙ get_or_default ends core end 0 in_range ∙ ap (λ c. get_or ends c 0) (at ∙ ap (core_at entries) own)

  pub cut_off_here : start_at entries j < end → IsCutOff entries (job_in order k)
  cut_off_here late = cut_off entries order is_order m k ends below on_core are (omega (arith, late, is_end, ap (start_at entries) own))

  pub not_cut_off_here : end ≤ start_at entries j → ¬ IsCutOff entries (job_in order k)
  not_cut_off_here free = not_cut_off entries order is_order m k ends below on_core are (omega (arith, free, is_end, ap (start_at entries) own))

-- and when it is free afterwards
pub ends_here : (entries : List Entry) (order : List (ℕ × ℕ)) (m k : ℕ) (ends : List ℕ) (j core end later : ℕ) → k < length order → j ≡ job_in order k → core ≡ core_at entries j → end ≡ get_or ends core end →
    later ≡ max end (finish_at entries j) → core_at entries (job_in order k) < m → AreCoreEnds entries m (IsAmongFirst order k) ends → AreCoreEnds entries m (IsAmongFirst order (k + 1)) (set ends core later)
ends_here entries order m k ends j core end later below own at is e on_core are =
    let at_job : core ≡ core_at entries (job_in order k) = at ∙ ap (core_at entries) own in
    let in_range : core < length ends = omega (arith, at_job, on_core, are.each_core) in
    let was : end ≡ get_or ends (core_at entries (job_in order k)) 0 = is ∙ get_or_default ends core end 0 in_range ∙ ap (λ c. get_or ends c 0) at_job in
    let new : later ≡ max (get_or ends (core_at entries (job_in order k)) 0) (finish_at entries (job_in order k)) = e ∙ ap (λ x. max x (finish_at entries j)) was ∙ ap (λ i. max (get_or ends (core_at entries (job_in order k)) 0) (finish_at entries i)) own in
    subst (λ c. AreCoreEnds entries m (IsAmongFirst order (k + 1)) (set ends c later)) (sym at_job)
    (subst (λ x. AreCoreEnds entries m (IsAmongFirst order (k + 1)) (set ends (core_at entries (job_in order k)) x)) (sym new)
    (AreCoreEnds-more entries m (IsAmongFirst order k) (IsAmongFirst order (k + 1)) (job_in order k) ends are (done_more order k) (done_kept order k) (done_last order k below) on_core))
