-- Places in the order of release before which all jobs are dispatched.
use Rattle.std.proofs.Common.{◌≡◌, ◌∙◌, ℕ, zero, suc, ◌+◌, ◌<◌, ◌≤◌, true, false, List, [], ◌∷◌, length, map, ap, subst, sym, arith, get_or, below_more}
use Rattle.std.proofs.lemmas.Bool.{cond-true, cond-false, or_right}
use Rattle.std.proofs.lemmas.List.{get_or_read, length-map}
use Rattle.std.proofs.lemmas.List.Sorted.{length_permutation}
use Rattle.std.proofs.lemmas.List.FromFn.{length-range_with_len}
use Rattle.lists.specs.Numbers.{numbers_below}
use Rattle.job_sets.specs.Subset.{is_member}
use Rattle.job_sets.proofs.Additions.{is_member-with_number}
use Rattle.job_model.specs.Releases.{IsReleaseOrder, release_order}
use Rattle.job_model.specs.Table.{Table}
use Rattle.start_windows.specs.Eligible.{IsFront, front_of, leading_members}
use Rattle.start_windows.specs.Laws.{FrontsAreHandedDown}

-- as many as lead, where the next is none
pub leading-at : (set : List ℕ) (order : List (ℕ × ℕ)) (k : ℕ) → k ≤ length order → ((i : ℕ) → i < k → is_member (get_or order i (0, 0)).1 set ≡ true) →
    (k < length order → is_member (get_or order k (0, 0)).1 set ≡ false) → leading_members set order ≡ k
leading-at set [] k within front next = omega (arith, within)
leading-at set (e ∷ order) zero within front next = cond-false _ _ _ (next (omega arith))
leading-at set (e ∷ order) (suc k) within front next =
    cond-true _ _ _ (front 0 (omega arith)) ∙ ap suc (leading-at set order k (omega (arith, within)) (λ i below. front (suc i) (omega (arith, below))) (λ below. next (omega (arith, below))))

-- the order of release has all jobs
pub count_in_order : (table : Table) (order : List (ℕ × ℕ)) → IsReleaseOrder table order → length order ≡ length table.jobs
count_in_order table order is = omega (arith, length_permutation (numbers_below (length table.jobs)) (map (λ e. e.1) order) is.each_job, length-map order (λ (e : ℕ × ℕ). e.1), length-range_with_len 0 (length table.jobs))

module _ (table : Table) (set : List ℕ) (order : List (ℕ × ℕ)) (own : order ≡ release_order table) (is : IsReleaseOrder table order) where
  entry : (k : ℕ) → (P : ℕ × ℕ → Type 0) → P (get_or order k (0, 0)) → P (get_or (release_order table) k (0, 0))
  entry k P h = subst (λ (l : List (ℕ × ℕ)). P (get_or l k (0, 0))) own h

  -- one more dispatched job
  pub IsFront-more : (place : ℕ) (e : ℕ × ℕ) → IsFront table set place → place < length order → e ≡ get_or order place e → is_member e.1 set ≡ true → IsFront table set (place + 1)
  IsFront-more place e front below read member =
      let there : e ≡ get_or order place (0, 0) = get_or_read order place e below read (0, 0) in
      let here : is_member (get_or (release_order table) place (0, 0)).1 set ≡ true =
      entry place (λ x. is_member x.1 set ≡ true) (subst (λ (x : ℕ × ℕ). is_member x.1 set ≡ true) there member) in
      record { in_order = omega (arith, count_in_order table order is, below); passed = below_more (λ k. is_member (get_or (release_order table) k (0, 0)).1 set ≡ true) place front.passed here }

  -- the first job that is not dispatched
  pub front-at : (place : ℕ) (e : ℕ × ℕ) → IsFront table set place → place < length order → e ≡ get_or order place e → is_member e.1 set ≡ false → place ≡ front_of table set
  front-at place e front below read out =
      let there : e ≡ get_or order place (0, 0) = get_or_read order place e below read (0, 0) in
      let next : is_member (get_or (release_order table) place (0, 0)).1 set ≡ false =
      entry place (λ x. is_member x.1 set ≡ false) (subst (λ (x : ℕ × ℕ). is_member x.1 set ≡ false) there out) in
      sym (leading-at set (release_order table) place (omega (arith, below, ap length own)) front.passed (λ _. next))

  -- all jobs are dispatched
  pub front-all : (place : ℕ) → IsFront table set place → length order ≤ place → IsFront table set (length table.jobs) × (length table.jobs ≡ front_of table set)
  front-all place front past =
      let e : place ≡ length table.jobs = omega (arith, front.in_order, count_in_order table order is, past) in
      let all : IsFront table set (length table.jobs) = subst (IsFront table set) e front in
      (all, sym (leading-at set (release_order table) (length table.jobs) (omega (arith, ap length own, count_in_order table order is)) all.passed (λ below. absurd (omega (arith, below, ap length own, count_in_order table order is)))))

pub fronts_are_handed_down : FrontsAreHandedDown
fronts_are_handed_down = record {
  start = λ table set. record { in_order = omega arith; passed = λ k below. absurd (omega (arith, below)) };
  kept = λ table set front j is. record {
    in_order = is.in_order;
    passed = λ k below. is_member-with_number (get_or (release_order table) k (0, 0)).1 j set ∙ or_right _ _ (is.passed k below);
  };
}
