-- The tied prospects that are kept at the start of the list, in place.
use Rattle.std.proofs.Common.{◌≡◌, ◌∙◌, ℕ, zero, suc, ◌+◌, ◌<◌, ◌≤◌, Bool, true, false, not, List, [], ◌∷◌, ◌++◌, length, map, min, drop, get_or, refl, sym, ap, subst, arith}
use Rattle.std.specs.Prelude.{filter, nat_eq}
use Rattle.std.specs.List.{list_all}
use Rattle.std.proofs.Math.ListN.{set, length-set}
use Rattle.std.specs.Cmp.Lexicographic.{pointwise}
use Rattle.std.proofs.lemmas.Bool.{and_parts, cond-true, cond-false, eqb-true}
use Rattle.std.proofs.lemmas.List.{append-nil, drop-drop, drop-set-lt, get_or-drop, map-append}
use Rattle.std.proofs.lemmas.List.Elements.{All-push, filter-append}
use Rattle.job_sets.specs.Subset.{is_member}
use Rattle.lists.specs.Numbers.{greatest}
use Rattle.job_model.specs.Table.{Table, job_at, predecessors}
use Rattle.sag_time.specs.Interval.{Interval}
use Rattle.start_windows.specs.declared.eligibility.Freed.{Freed}
use Rattle.start_windows.specs.declared.eligibility.Prospect.{Prospect}
use Rattle.start_windows.specs.Ends.{high_end, low_end}
use Rattle.start_windows.specs.Window.{latest_ready, ready_beside}
use Rattle.start_windows.specs.Prospects.{AreProspects, IsBehindOne, capped, freed_by, is_tied, jobs_of}
use Rattle.start_windows.proofs.ByUrgency.{Own}
use Rattle.start_windows.proofs.Caps.{capped_push}

-- ---- limits

pub same_numbers : (xs ys : List ℕ) → pointwise nat_eq xs ys ≡ true → xs ≡ ys
same_numbers [] [] h = refl
same_numbers [] (y ∷ ys) h = absurd cc
same_numbers (x ∷ xs) [] h = absurd cc
same_numbers (x ∷ xs) (y ∷ ys) h =
    let parts = and_parts (nat_eq x y) (pointwise nat_eq xs ys) h in
    ap (λ z. z ∷ xs) (eqb-true x y parts.0) ∙ ap (λ l. y ∷ l) (same_numbers xs ys parts.1)

-- jobs that wait for the same ones
pub freed_same : (table : Table) (ends : List (ℕ × Interval)) (i j : ℕ) → predecessors table i ≡ predecessors table j → freed_by table ends i ≡ freed_by table ends j
freed_same table ends i j e = ap after e
  where
    after : List ℕ → Freed
    after ps = record { low = greatest (map (low_end ends) ps); high = greatest (map (high_end ends) ps) }

-- jobs that wait for none together
filter-all : (p : ℕ → Bool) (xs : List ℕ) → list_all p xs ≡ true → filter p xs ≡ xs
filter-all p [] h = refl
filter-all p (x ∷ xs) h =
    let parts = and_parts (p x) (list_all p xs) h in
    cond-true (p x) (x ∷ filter p xs) (filter p xs) parts.0 ∙ ap (λ l. x ∷ l) (filter-all p xs parts.1)

pub ready_beside-apart : (table : Table) (ends : List (ℕ × Interval)) (j x : ℕ) → list_all (λ i. not (is_member i (predecessors table j))) (predecessors table x) ≡ true → latest_ready table ends x ≡ ready_beside table ends j x
ready_beside-apart table ends j x h =
    ap (λ (ps : List ℕ). greatest ((job_at table x).rmax ∷ map (high_end ends) ps)) (sym (filter-all (λ i. not (is_member i (predecessors table j))) (predecessors table x) h))

-- what is kept of those seen sets the limits that all tied ones set
pub record IsHeld (table : Table) (ends : List (ℕ × Interval)) (seen held : List Prospect) : Type 0 where
  pub limits : (j c : ℕ) → capped c (map (ready_beside table ends j) (jobs_of held)) ≡ capped c (map (ready_beside table ends j) (jobs_of (filter is_tied seen)))
  pub own : AreProspects table ends held

tied_more : (seen : List Prospect) (x : Prospect) → is_tied x ≡ true → filter is_tied (seen ++ x ∷ []) ≡ filter is_tied seen ++ x ∷ []
tied_more seen x e = filter-append is_tied seen (x ∷ []) ∙ ap (λ l. filter is_tied seen ++ l) (cond-true _ _ _ e)

limits_push : (f : ℕ → ℕ) (c : ℕ) (held : List Prospect) (x : Prospect) → capped c (map f (jobs_of (held ++ x ∷ []))) ≡ min (capped c (map f (jobs_of held))) (f x.job)
limits_push f c held x =
    ap (λ l. capped c (map f l)) (map-append (λ (y : Prospect). y.job) held (x ∷ [])) ∙ ap (capped c) (map-append f (jobs_of held) (x.job ∷ [])) ∙ capped_push c (map f (jobs_of held)) (f x.job)

limit-at : (f : ℕ → ℕ) (c : ℕ) (held : List Prospect) (k : ℕ) (y : Prospect) → k < length held → y ≡ get_or held k y → capped c (map f (jobs_of held)) ≤ f y.job
limit-at f c [] k y below e = absurd (omega (arith, below))
limit-at f c (x ∷ held) zero y below e = let same : f y.job ≡ f x.job = ap (λ (p : Prospect). f p.job) e in omega (arith, same)
limit-at f c (x ∷ held) (suc k) y below e = let more : capped c (map f (jobs_of held)) ≤ f y.job = limit-at f c held k y (omega (arith, below)) e in omega (arith, more)

module _ (table : Table) (ends : List (ℕ × Interval)) where
  pub IsHeld-other : (seen held : List Prospect) (x : Prospect) → IsHeld table ends seen held → is_tied x ≡ false → IsHeld table ends (seen ++ x ∷ []) held
  IsHeld-other seen held x so_far e =
      let same : filter is_tied (seen ++ x ∷ []) ≡ filter is_tied seen = filter-append is_tied seen (x ∷ []) ∙ ap (λ l. filter is_tied seen ++ l) (cond-false _ _ _ e) ∙ append-nil (filter is_tied seen) in
      record { limits = λ j c. so_far.limits j c ∙ ap (λ (l : List Prospect). capped c (map (ready_beside table ends j) (jobs_of l))) (sym same); own = so_far.own }

  pub IsHeld-push : (seen held : List Prospect) (x : Prospect) → IsHeld table ends seen held → is_tied x ≡ true → Own table ends x → IsHeld table ends (seen ++ x ∷ []) (held ++ x ∷ [])
  IsHeld-push seen held x so_far e own =
      record {
        limits = λ j c.
            let f = ready_beside table ends j in
            limits_push f c held x ∙ ap (λ n. min n (f x.job)) (so_far.limits j c) ∙ sym (limits_push f c (filter is_tied seen) x) ∙ ap (λ (l : List Prospect). capped c (map f (jobs_of l))) (sym (tied_more seen x e));
        own = All-push (Own table ends) held x so_far.own own;
      }

  -- it is there no later than one that waits for the same jobs and is released no later
  beside_one : (j : ℕ) (y x : Prospect) → Own table ends y → Own table ends x → y.released ≤ x.released → predecessors table y.job ≡ predecessors table x.job → ready_beside table ends j y.job ≤ ready_beside table ends j x.job
  beside_one j y x own_y own_x le same =
      let rest = λ (ps : List ℕ). greatest (map (high_end ends) (filter (λ i. not (is_member i (predecessors table j))) ps)) in
      let held_up : rest (predecessors table y.job) ≡ rest (predecessors table x.job) = ap rest same in
      let from_y : y.released ≡ (job_at table y.job).rmax = ap (λ (p : Prospect). p.released) own_y.0 in
      let from_x : x.released ≡ (job_at table x.job).rmax = ap (λ (p : Prospect). p.released) own_x.0 in
      omega (arith, held_up, from_y, from_x, le)

  pub IsHeld-behind : (seen held : List Prospect) (x : Prospect) → IsHeld table ends seen held → is_tied x ≡ true → Own table ends x → IsBehindOne table held x → IsHeld table ends (seen ++ x ∷ []) held
  IsHeld-behind seen held x so_far e own behind =
      let own_one = subst (λ (y : Prospect). Own table ends y) (sym behind.read) (so_far.own behind.place behind.one behind.there) in
      record {
        limits = λ j c.
            let f = ready_beside table ends j in
            let le : capped c (map f (jobs_of held)) ≤ f x.job =
            omega (arith, limit-at f c held behind.place behind.one behind.there behind.read, beside_one j behind.one x own_one own behind.not_later behind.same) in
            let keeps : capped c (map f (jobs_of held)) ≡ min (capped c (map f (jobs_of held))) (f x.job) = omega (arith, le) in
            keeps ∙ ap (λ n. min n (f x.job)) (so_far.limits j c) ∙ sym (limits_push f c (filter is_tied seen) x) ∙ ap (λ (l : List Prospect). capped c (map f (jobs_of l))) (sym (tied_more seen x e));
        own = so_far.own;
      }

-- ---- places

-- what is still to be read stands where it stood
pub record IsPassed (all ranked : List Prospect) (tied place : ℕ) : Type 0 where
  pub rest : drop place ranked ≡ drop place all
  pub behind : tied ≤ place
  pub within : place ≤ length all
  pub long : length ranked ≡ length all

pub IsPassed-more : (all ranked : List Prospect) (tied place : ℕ) → IsPassed all ranked tied place → place < length all → IsPassed all ranked tied (place + 1)
IsPassed-more all ranked tied place so_far below = record {
  rest = sym (drop-drop 1 place ranked) ∙ ap (drop 1) so_far.rest ∙ drop-drop 1 place all;
  behind = omega (arith, so_far.behind);
  within = omega (arith, below);
  long = so_far.long;
}

pub IsPassed-set : (all ranked : List Prospect) (tied place : ℕ) (x : Prospect) → IsPassed all ranked tied place → place < length all → IsPassed all (set ranked tied x) (tied + 1) (place + 1)
IsPassed-set all ranked tied place x so_far below =
    let more = IsPassed-more all ranked tied place so_far below in
    record {
      rest = drop-set-lt (place + 1) ranked tied x (omega (arith, so_far.behind)) ∙ more.rest;
      behind = omega (arith, so_far.behind);
      within = more.within;
      long = length-set ranked tied x ∙ so_far.long;
    }

pub read_passed : (all ranked : List Prospect) (tied place : ℕ) (x : Prospect) → IsPassed all ranked tied place → x ≡ get_or ranked place x → x ≡ get_or all place x
read_passed all ranked tied place x so_far is =
    let at : (l : List Prospect) → get_or (drop place l) 0 x ≡ get_or l place x = λ (l : List Prospect). get_or-drop place l 0 x ∙ ap (λ n. get_or l n x) (omega arith) in
    is ∙ sym (at ranked) ∙ ap (λ (l : List Prospect). get_or l 0 x) so_far.rest ∙ at all
