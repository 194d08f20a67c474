-- What a window says, and what bounds it.
use Rattle.std.proofs.Common.{◌≡◌, ℕ, ◌<◌, ◌≤◌, Bool, true, false, ◌&&◌, cond, List, [], ◌∷◌, length, map, min, Option, Some, None, refl, ap, arith, inl, inr}
use Rattle.std.specs.Prelude.{◌==◌, nat_le, nat_lt, nat_eq, not, unwrap_or}
use Rattle.std.specs.List.{list_all}
use Rattle.std.specs.Map.{lookup}
use Rattle.std.specs.Option.{option_map_or}
use Rattle.std.proofs.lemmas.Bool.{or_cases, eqb-true, false≢true, and_parts, leb-true, ltb-true, cases_lt, not-true}
use Rattle.std.proofs.lemmas.List.{get_or_past}
use Rattle.std.proofs.lemmas.List.Elements.{All-get_or}
use Rattle.job_sets.specs.Subset.{is_member}
use Rattle.job_model.specs.declared.limits.TheConstants.{MOST_ARRIVAL}
use Rattle.lists.specs.Numbers.{greatest, least}
use Rattle.job_model.specs.Table.{Table, IsTable, IsJob, job_at, no_job, predecessors}
use Rattle.sag_time.specs.Interval.{Interval}
use Rattle.start_windows.specs.declared.StartWindow.{StartWindow}
use Rattle.start_windows.specs.Ends.{high_end, low_end}
use Rattle.start_windows.specs.Window.{is_candidate, candidates, latest_ready, earliest_ready, earliest_start, certain_start, overtaken_from, is_before, last_before, start_window}

-- ---- the parts of a window

pub record IsWindow (table : Table) (set : List ℕ) (ends : List (ℕ × Interval)) (first : Interval) (j : ℕ) (window : StartWindow) : Type 0 where
  pub is_job : j < length table.jobs
  pub outside : is_member j set ≡ false
  pub is_candidate : is_candidate table set j ≡ true
  pub waited : list_all (λ i. is_member i set) (predecessors table j) ≡ true
  pub after_ends : (i : ℕ) → is_member i (predecessors table j) ≡ true → low_end ends i ≤ window.est
  pub in_order : window.est ≤ window.lst
  pub certain : window.lst ≤ certain_start table set ends first

last_before-le : (limit : Option ℕ) (t : ℕ) → last_before limit t ≤ t
last_before-le None t = omega arith
last_before-le (Some limit) t = omega arith

pub le-last_before : (s t : ℕ) (limit : Option ℕ) → s ≤ t → is_before s limit ≡ true → s ≤ last_before limit t
le-last_before s t None h e = h
le-last_before s t (Some limit) h e = omega (arith, h, ltb-true s limit e)

greatest-member : (f : ℕ → ℕ) (i : ℕ) (xs : List ℕ) → is_member i xs ≡ true → f i ≤ greatest (map f xs)
greatest-member f i [] there = absurd (false≢true there)
greatest-member f i (x ∷ xs) there =
    elim (or_cases (x == i) (is_member i xs) there) [
      | inl here ↦ let same : f x ≡ f i = ap f (eqb-true x i here) in omega (arith, same)
      | inr later ↦ omega (arith, greatest-member f i xs later)
    ]

some_since : (b : Bool) (x y : StartWindow) → cond b (Some x) None ≡ Some y → (b ≡ true) × (x ≡ y)
some_since true x y e = (refl, cc)
some_since false x y e = cc

pub IsWindow-from : (table : Table) (set : List ℕ) (ends : List (ℕ × Interval)) (first : Interval) (j : ℕ) (window : StartWindow) →
    start_window table set ends first j ≡ Some window → IsWindow table set ends first j window
IsWindow-from table set ends first j window e =
    let est : ℕ = earliest_start table ends first j in
    let certain : ℕ = certain_start table set ends first in
    let limit : Option ℕ = overtaken_from table set ends j in
    let found = some_since (is_candidate table set j && nat_le est certain && is_before est limit) (record { est = est; lst = last_before limit certain }) window e in
    let two = and_parts (is_candidate table set j && nat_le est certain) (is_before est limit) found.0 in
    let one = and_parts (is_candidate table set j) (nat_le est certain) two.0 in
    let parts = and_parts (nat_lt j (length table.jobs) && not (is_member j set)) (list_all (λ i. is_member i set) (predecessors table j)) one.0 in
    let own = and_parts (nat_lt j (length table.jobs)) (not (is_member j set)) parts.0 in
    let is_est : est ≡ window.est = ap (λ w. w.est) found.1 in
    let is_lst : last_before limit certain ≡ window.lst = ap (λ w. w.lst) found.1 in
    let sooner : est ≤ certain = leb-true est certain one.1 in
    let ready : earliest_ready table ends j ≤ est = omega arith in
    let order : est ≤ last_before limit certain = le-last_before est certain limit sooner two.1 in
    let late : last_before limit certain ≤ certain = last_before-le limit certain in
    record {
      is_job = ltb-true j (length table.jobs) own.0;
      outside = not-true (is_member j set) own.1;
      is_candidate = one.0;
      waited = parts.1;
      after_ends = λ i there. omega (arith, greatest-member (low_end ends) i (predecessors table j) there, ready, is_est);
      in_order = omega (arith, is_est, is_lst, order);
      certain = omega (arith, is_lst, late);
    }

-- ---- a limit that no number of the state, and no release, is above

high_end-le : (limit : ℕ) (ends : List (ℕ × Interval)) → list_all (λ e. nat_le e.1.hi limit) ends ≡ true → (i : ℕ) → high_end ends i ≤ limit
high_end-le limit [] all i = omega arith
high_end-le limit (e ∷ es) all i =
    let parts = and_parts (nat_le e.1.hi limit) (list_all (λ e. nat_le e.1.hi limit) es) all in
    let here : e.1.hi ≤ limit = leb-true e.1.hi limit parts.0 in
    let rest : high_end es i ≤ limit = high_end-le limit es parts.1 i in
    elim (nat_eq i e.0) as (λ b. option_map_or (λ (s : Interval). s.hi) (cond b (Some e.1) (lookup (nat_eq i) es)) 0 ≤ limit) [ true ↦ here | false ↦ rest ]

greatest-le : (f : ℕ → ℕ) (limit : ℕ) → ((i : ℕ) → f i ≤ limit) → (xs : List ℕ) → greatest (map f xs) ≤ limit
greatest-le f limit each [] = omega arith
greatest-le f limit each (x ∷ xs) = omega (arith, each x, greatest-le f limit each xs)

least-le : (f : ℕ → ℕ) (limit : ℕ) → ((i : ℕ) → f i ≤ limit) → (xs : List ℕ) → unwrap_or (least (map f xs)) 0 ≤ limit
least-le f limit each [] = omega arith
least-le f limit each (x ∷ xs) =
    let here : f x ≤ limit = each x in
    elim (least (map f xs)) as (λ o. option_map_or (λ y. min (f x) y) o (f x) ≤ limit) [ None ↦ here | Some y ↦ omega (arith, here) ]

-- also of a job that is not there
arrival-le : (table : Table) → IsTable table → (j : ℕ) → (job_at table j).rmax ≤ MOST_ARRIVAL
arrival-le table is_table j =
    elim (cases_lt j (length table.jobs)) [
      | inl below ↦ (All-get_or IsJob table.jobs j no_job below is_table.jobs).arrival_limit
      | inr past ↦ rw (get_or_past table.jobs j no_job past) (omega arith)
    ]

module _ (table : Table) (is_table : IsTable table) (set : List ℕ) (ends : List (ℕ × Interval)) (first : Interval) (limit : ℕ) where
  pub certain_start-le : MOST_ARRIVAL ≤ limit → first.hi ≤ limit → list_all (λ e. nat_le e.1.hi limit) ends ≡ true → certain_start table set ends first ≤ limit
  certain_start-le arrivals core all =
      let ready : (i : ℕ) → latest_ready table ends i ≤ limit =
      λ (i : ℕ). omega (arith, arrivals, arrival-le table is_table i, greatest-le (high_end ends) limit (high_end-le limit ends all) (predecessors table i)) in
      omega (arith, core, least-le (latest_ready table ends) limit ready (candidates table set))
