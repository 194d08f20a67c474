-- When dispatched jobs finish: intervals that hold these times, looked up, added and kept.
--     AllHold f ends                       each interval holds what f has at its job
--     low_end-le, le-high_end              so do those that are looked up
--     All-insert_entry, All-still_tracked  what each entry has, after one is added, and of those that are still of use
--     AllHold-cut                          and so do those that are cut
--     tracked-predecessor                  a dispatched predecessor of a job that is not is tracked
use Rattle.std.proofs.Common.{◌≡◌, ℕ, ◌≤◌, Bool, true, false, cond, List, [], ◌∷◌, map, filter, refl, ap, arith, inl, inr, ⊎_elim, ◌⊎◌, sym, ◌∙◌, min, All, Some}
use Rattle.std.specs.Prelude.{nat_le, nat_eq, IsTrue, ◌==◌, not}
use Rattle.std.specs.Map.{keys_of, lookup}
use Rattle.std.specs.Option.{option_map_or}
use Rattle.std.proofs.lemmas.Bool.{and_parts, and_from, eqb-true, eq-eqb, leb-true, le-leb, false≢true}
use Rattle.std.proofs.lemmas.List.Elements.{All-head, All-tail, All-cons, All-nil, All-filter}
use Rattle.job_sets.specs.Subset.{is_member}
use Rattle.job_sets.proofs.Members.{is_member-cons, is_member-first, is_member-rest, is_member-filter, list_any-from_member}
use Rattle.job_model.specs.Neighbours.{sources, targets}
use Rattle.job_model.specs.Table.{Table, predecessors, successors}
use Rattle.sag_time.specs.Interval.{Interval, holds}
use Rattle.start_windows.specs.Ends.{low_end, high_end}
use Rattle.sag_step.specs.State.{is_tracked, tracked_jobs}
use Rattle.sag_step.specs.Next.{cut_end, cut_ends, still_tracked}

module _ (f : ℕ → ℕ) where
  -- each interval holds what f has at its job
  abbrev pub AllHold : List (ℕ × Interval) → Type 0
  AllHold ends = All (λ e. IsTrue (holds e.1 (f e.0))) ends

  pub low_end-le : (i : ℕ) (ends : List (ℕ × Interval)) → AllHold ends → low_end ends i ≤ f i
  low_end-le i [] h = omega arith
  low_end-le i (e ∷ es) h =
      let here = and_parts (nat_le e.1.lo (f e.0)) (nat_le (f e.0) e.1.hi) (All-head (λ e. IsTrue (holds e.1 (f e.0))) e es h) in
      at (nat_eq i e.0) refl (leb-true e.1.lo (f e.0) here.0) (low_end-le i es (All-tail (λ e. IsTrue (holds e.1 (f e.0))) e es h))
    where
      at : (b : Bool) → nat_eq i e.0 ≡ b → e.1.lo ≤ f e.0 → low_end es i ≤ f i → option_map_or (λ s. s.lo) (cond b (Some e.1) (lookup (nat_eq i) es)) 0 ≤ f i
      at true is here rest = let same : f i ≡ f e.0 = ap f (eqb-true i e.0 is) in omega (arith, same, here)
      at false is here rest = rest

  pub le-high_end : (i : ℕ) (ends : List (ℕ × Interval)) → AllHold ends → is_member i (keys_of ends) ≡ true → f i ≤ high_end ends i
  le-high_end i [] h there = absurd (false≢true there)
  le-high_end i (e ∷ es) h there =
      let here = and_parts (nat_le e.1.lo (f e.0)) (nat_le (f e.0) e.1.hi) (All-head (λ e. IsTrue (holds e.1 (f e.0))) e es h) in
      at (nat_eq i e.0) refl (leb-true (f e.0) e.1.hi here.1) (is_member-cons i e.0 (keys_of es) there) (le-high_end i es (All-tail (λ e. IsTrue (holds e.1 (f e.0))) e es h))
    where
      at : (b : Bool) → nat_eq i e.0 ≡ b → f e.0 ≤ e.1.hi → (e.0 ≡ i) ⊎ (is_member i (keys_of es) ≡ true) → (is_member i (keys_of es) ≡ true → f i ≤ high_end es i) →
          f i ≤ option_map_or (λ s. s.hi) (cond b (Some e.1) (lookup (nat_eq i) es)) 0
      at true is here place rest = let same : f i ≡ f e.0 = ap f (eqb-true i e.0 is) in omega (arith, same, here)
      at false is here (inl same) rest = absurd (false≢true (sym is ∙ eq-eqb i e.0 (sym same)))
      at false is here (inr later) rest = rest later

pub All-still_tracked : (P : ℕ × Interval → Type 0) (table : Table) (set : List ℕ) (es : List (ℕ × Interval)) → All P es → All P (still_tracked table set es)
All-still_tracked P table set es all = All-filter (λ e. is_tracked table set e.0) P es all

-- where predecessors of a job finish by its latest start, their intervals may end there
pub AllHold-cut : (f : ℕ → ℕ) (table : Table) (j lst : ℕ) (ends : List (ℕ × Interval)) → ((i : ℕ) → is_member i (predecessors table j) ≡ true → f i ≤ lst) → AllHold f ends → AllHold f (cut_ends table j lst ends)
AllHold-cut f table j lst [] done all = All-nil (λ e. IsTrue (holds e.1 (f e.0)))
AllHold-cut f table j lst (e ∷ es) done all =
    All-cons (λ e. IsTrue (holds e.1 (f e.0))) (cut_end table j lst e) (cut_ends table j lst es)
    (at (is_member e.0 (predecessors table j)) refl (All-head (λ e. IsTrue (holds e.1 (f e.0))) e es all))
    (AllHold-cut f table j lst es done (All-tail (λ e. IsTrue (holds e.1 (f e.0))) e es all))
  where
    at : (b : Bool) → is_member e.0 (predecessors table j) ≡ b → holds e.1 (f e.0) ≡ true → holds (cond b (record { lo = e.1.lo; hi = min e.1.hi lst }) e.1) (f e.0) ≡ true
    at false is here = here
    at true is here =
        let parts = and_parts (nat_le e.1.lo (f e.0)) (nat_le (f e.0) e.1.hi) here in
        and_from (nat_le e.1.lo (f e.0)) (nat_le (f e.0) (min e.1.hi lst)) parts.0
        (le-leb (f e.0) (min e.1.hi lst) (omega (arith, leb-true (f e.0) e.1.hi parts.1, done e.0 is)))

-- an edge, seen from both ends
target-from_source : (edges : List (ℕ × ℕ)) (i x : ℕ) → is_member i (sources edges x) ≡ true → is_member x (targets edges i) ≡ true
target-from_source [] i x there = there
target-from_source (e ∷ es) i x there = at (e.1 == x) (e.0 == i) refl refl there (target-from_source es i x)
  where
    at : (b c : Bool) → (e.1 == x) ≡ b → (e.0 == i) ≡ c → is_member i (map (λ e. e.0) (cond b (e ∷ filter (λ e. e.1 == x) es) (filter (λ e. e.1 == x) es))) ≡ true →
        (is_member i (sources es x) ≡ true → is_member x (targets es i) ≡ true) →
        is_member x (map (λ e. e.1) (cond c (e ∷ filter (λ e. e.0 == i) es) (filter (λ e. e.0 == i) es))) ≡ true
    at true true to from there rest = is_member-first x e.1 (targets es i) (eqb-true e.1 x to)
    at true false to from there rest = ⊎_elim
        (λ (same : e.0 ≡ i). absurd (false≢true (sym from ∙ eq-eqb e.0 i same)))
        (λ (later : is_member i (sources es x) ≡ true). rest later)
        (is_member-cons i e.0 (sources es x) there)
    at false true to from there rest = is_member-rest x e.1 (targets es i) (rest there)
    at false false to from there rest = rest there

-- a dispatched predecessor of a job that is not is tracked
pub tracked-predecessor : (table : Table) (set : List ℕ) (i x : ℕ) → is_member i set ≡ true → is_member x set ≡ false → is_member i (predecessors table x) ≡ true → is_member i (tracked_jobs table set) ≡ true
tracked-predecessor table set i x dispatched open_job edge =
    is_member-filter (is_tracked table set) set i
    (list_any-from_member (λ k. not (is_member k set)) (successors table i) x (target-from_source table.edges i x edge) (ap not open_job))
    dispatched
