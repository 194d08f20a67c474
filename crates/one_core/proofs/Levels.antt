-- The levels of the graph of a table without precedence on one core: their states and their edges.
use Rattle.std.proofs.Common.{◌≡◌, ℕ, zero, suc, ◌<◌, true, List, [], ◌∷◌, length, Some, refl, sym, ap, ◌∙◌, subst, arith, ⊎_elim}
use Rattle.std.specs.Prelude.{filter, slice_get, ◌==◌, ◌&&◌}
use Rattle.std.specs.List.{AllByRecursion, list_any}
use Rattle.std.specs.Ordering.{nat_cmp}
use Rattle.std.specs.BTreeMap.{insert_entry}
use Rattle.std.proofs.lemmas.Option.{none-some}
use Rattle.std.proofs.lemmas.List.Elements.{All-get_or}
use Rattle.job_sets.specs.Subset.{with_number}
use Rattle.job_sets.proofs.Additions.{IsSubset-with_number, length-with_number}
use Rattle.job_model.specs.declared.job_row.Job.{Job}
use Rattle.job_model.specs.Table.{IsTable, IsJob, table_of, job_at, no_job}
use Rattle.sag_time.specs.Interval.{Interval, holds}
use Rattle.start_windows.specs.declared.StartWindow.{StartWindow}
use Rattle.sag_step.specs.State.{SystemState, root, first_core, state_window, is_tracked}
use Rattle.sag_step.specs.Next.{next, finish_interval, still_tracked, cut_ends, runs_past}
use Rattle.sag_step.specs.Group.{Offer, offers}
use Rattle.sag_graph.specs.Levels.{Level, level_at, edges_into, edge_to, next_level}
use Rattle.sag_graph.specs.Spans.{edge_finish}
use Rattle.graph_memory.proofs.OfferSteps.{IsOffer, offers-are}
use Rattle.lists.proofs.Elements.{each_at, recursion_weaker}
use Rattle.one_core.proofs.OneWindows.{OneWindow, OneWindow-from}
use Rattle.one_core.proofs.Grouping.{IsOneCore, grouped-fine, grouped-holds}

-- ---- one step

-- without edges nobody waits
none-tracked : (jobs : List Job) (set : List ℕ) (ends : List (ℕ × Interval)) → still_tracked (table_of jobs) set ends ≡ []
none-tracked jobs set [] = refl
none-tracked jobs set (e ∷ es) = none-tracked jobs set es

pub none-waits : (jobs : List Job) (set js : List ℕ) → filter (is_tracked (table_of jobs) set) js ≡ []
none-waits jobs set [] = refl
none-waits jobs set (j ∷ js) = none-waits jobs set js

module _ (jobs : List Job) (is_table : IsTable (table_of jobs)) where
  pub is_job : (j : ℕ) → j < length jobs → IsJob (job_at (table_of jobs) j)
  is_job j below = All-get_or IsJob jobs j no_job below is_table.jobs

  module _ (k : ℕ) (s : SystemState) (one : IsOneCore (length jobs) k s) (j : ℕ) (window : StartWindow) (may : state_window (table_of jobs) s j ≡ Some window) where
    pub window_facts : OneWindow jobs s.set.members (first_core s) j window
    window_facts = OneWindow-from jobs s.set.members s.ends (first_core s) j window may

    pub next-interval : first_core (next (table_of jobs) s j window) ≡ finish_interval (table_of jobs) j window
    next-interval = rw (one.low, one.high) refl

    pub IsOneCore-next : IsOneCore (length jobs) (suc k) (next (table_of jobs) s j window)
    IsOneCore-next =
        let w = window_facts in
        record {
          lo = (finish_interval (table_of jobs) j window).lo;
          hi = (finish_interval (table_of jobs) j window).hi;
          low = rw one.low refl;
          high = rw (one.low, one.high) refl;
          order = omega (arith, w.in_order, (is_job j w.is_job).costs);
          ends = none-tracked jobs (with_number j s.set.members) (insert_entry nat_cmp (cut_ends (table_of jobs) j window.lst s.ends) j (finish_interval (table_of jobs) j window));
          last = none-waits jobs (with_number j s.set.members) (with_number j (filter (runs_past s.ends window.lst) s.last.members));
          last_size = one.last_size;
          set = IsSubset-with_number s.set j (omega (arith, one.of_size, w.is_job)) one.set;
          of_size = one.of_size;
          count = omega (arith, length-with_number j s.set.members w.outside, one.count);
        }

-- ---- levels

module _ (jobs : List Job) (is_table : IsTable (table_of jobs)) where
  abbrev at_level : ℕ → Level
  at_level k = level_at (table_of jobs) 1 k

  root-fine : IsOneCore (length jobs) 0 (root (table_of jobs) 1)
  root-fine = record {
    lo = 0;
    hi = 0;
    low = refl;
    high = refl;
    order = omega arith;
    ends = refl;
    last = refl;
    last_size = refl;
    set = record { rising = refl; in_range = refl };
    of_size = refl;
    count = refl;
  }

  offer-fine : (k : ℕ) (states : List SystemState) → AllByRecursion (IsOneCore (length jobs) k) states → (o : Offer) → IsOffer (table_of jobs) states o → IsOneCore (length jobs) (suc k) o.next
  offer-fine k states fine o is =
      subst (IsOneCore (length jobs) (suc k)) (sym is.next)
      (IsOneCore-next jobs is_table k is.source (each_at (IsOneCore (length jobs) k) states o.from is.source fine is.there) o.job o.window is.window)

  offer-holds : (k : ℕ) (states : List SystemState) → AllByRecursion (IsOneCore (length jobs) k) states → (o : Offer) → IsOffer (table_of jobs) states o →
      (to t : ℕ) → holds (first_core o.next) t ≡ true → holds (edge_finish (table_of jobs) (edge_to o to)) t ≡ true
  offer-holds k states fine o is to t h =
      let one = each_at (IsOneCore (length jobs) k) states o.from is.source fine is.there in
      let same : first_core o.next ≡ finish_interval (table_of jobs) o.job o.window =
      ap first_core is.next ∙ next-interval jobs is_table k is.source one o.job o.window is.window in
      subst (λ (i : Interval). holds i t ≡ true) same h

  pub levels-fine : (k : ℕ) → AllByRecursion (IsOneCore (length jobs) k) (at_level k).states
  unfolding level_at next_level
  levels-fine zero = (root-fine, tt)
  levels-fine (suc k) =
      let states = (at_level k).states in
      let fine = levels-fine k in
      grouped-fine (length jobs) (suc k) (offers (table_of jobs) states) []
      (recursion_weaker (IsOffer (table_of jobs) states) (λ o. IsOneCore (length jobs) (suc k) o.next) (offer-fine k states fine) (offers (table_of jobs) states) (offers-are (table_of jobs) states)) tt

  -- what a state's interval holds, some edge into the state does
  pub levels-cover : (k i t : ℕ) (s : SystemState) → slice_get (at_level (suc k)).states i ≡ Some s → holds (first_core s) t ≡ true →
      list_any (λ e. (e.to == i) && holds (edge_finish (table_of jobs) e) t) (at_level (suc k)).edges ≡ true
  unfolding level_at next_level
  levels-cover k i t s e h =
      let states = (at_level k).states in
      let fine = levels-fine k in
      let all = offers (table_of jobs) states in
      let are = offers-are (table_of jobs) states in
      ⊎_elim
      (λ (before : (r : SystemState) × (slice_get [] i ≡ Some r) × (holds (first_core r) t ≡ true)). absurd (none-some before.0 before.1))
      (λ (now : list_any (λ e. (e.to == i) && holds (edge_finish (table_of jobs) e) t) (edges_into [] all) ≡ true). now)
      (grouped-holds (length jobs) (suc k) (edge_finish (table_of jobs)) all []
      (recursion_weaker (IsOffer (table_of jobs) states) (λ o. IsOneCore (length jobs) (suc k) o.next) (offer-fine k states fine) all are) tt
      (recursion_weaker (IsOffer (table_of jobs) states) (λ o. (to t : ℕ) → holds (first_core o.next) t ≡ true → holds (edge_finish (table_of jobs) (edge_to o to)) t ≡ true) (offer-holds k states fine) all are)
      i t s e h)
