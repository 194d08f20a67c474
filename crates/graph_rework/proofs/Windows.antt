-- An edit of costs and deadline changes no window, and no step of another job.
use Rattle.std.proofs.Common.{◌≡◌, ◌≢◌, ℕ, ◌+◌, ◌-◌, Bool, true, cond, ◌||◌, ◌&&◌, not, eqb, max, List, [], ◌∷◌, filter, length, map, Option, Some, None, refl, ap, sym, ◌∙◌}
use Rattle.std.specs.Prelude.{nat_lt, nat_le, unwrap_or}
use Rattle.std.specs.List.{list_all, filter_map}
use Rattle.std.specs.Option.{option_map}
use Rattle.std.specs.Ordering.{nat_cmp}
use Rattle.std.specs.BTreeMap.{insert_entry}
use Rattle.std.specs.Cmp.Lexicographic.{bytes_decides}
use Rattle.std.proofs.Math.Path.{fun_ext}
use Rattle.std.proofs.lemmas.Bool.{and_parts}
use Rattle.job_sets.specs.Subset.{is_member, with_number}
use Rattle.job_sets.proofs.Additions.{is_member-with_number}
use Rattle.job_model.specs.declared.job_row.Job.{Job}
use Rattle.job_model.specs.Neighbours.{sources}
use Rattle.lists.specs.Numbers.{greatest, least, numbers_below}
use Rattle.job_model.specs.Table.{Table, job_at, has_urgency_over}
use Rattle.job_model.specs.Urgency.{is_more_urgent}
use Rattle.sag_time.specs.Interval.{Interval}
use Rattle.sag_time.specs.Sorted.{after_start, cap_first}
use Rattle.start_windows.specs.declared.StartWindow.{StartWindow}
use Rattle.start_windows.specs.Ends.{low_end, high_end}
use Rattle.start_windows.specs.Window.{start_window, is_before, last_before}
use Rattle.sag_step.specs.State.{SystemState, first_core, state_window}
use Rattle.sag_step.specs.Next.{cut_ends, last_predecessors, next, still_last, still_tracked}
use Rattle.sag_step.specs.Widen.{states_touch, state_hull, same_set}
use Rattle.graph_rework.specs.Edit.{IsEdit, HasReleaseOf, stays}
use Rattle.graph_rework.specs.Links.{windows_of}
use Rattle.graph_rework.specs.Laws.{NextStays, WindowsStay}
use Rattle.graph_rework.proofs.Grouping.{AreApart}

-- ---- what a window looks at

-- the window by what it looks at: the edges, the number of jobs, their releases and their urgency
module _ (edges : List (ℕ × ℕ)) (count : ℕ) (rmin rmax : ℕ → ℕ) (urgent : ℕ → ℕ → Bool) (set : List ℕ) (ends : List (ℕ × Interval)) (first : Interval) (j : ℕ) where
  abbrev is_candidate_by : ℕ → Bool
  is_candidate_by j = nat_lt j count && not (is_member j set) && list_all (λ i. is_member i set) (sources edges j)

  abbrev candidates_by : List ℕ
  candidates_by = filter is_candidate_by (numbers_below count)

  abbrev est_by : ℕ
  est_by = max (greatest (rmin j ∷ map (low_end ends) (sources edges j))) first.lo

  abbrev certain_by : ℕ
  certain_by = max first.hi (unwrap_or (least (map (λ x. greatest (rmax x ∷ map (high_end ends) (sources edges x))) candidates_by)) 0)

  abbrev limit_by : Option ℕ
  limit_by = least (map (λ x. greatest (rmax x ∷ map (high_end ends) (filter (λ i. not (is_member i (sources edges j))) (sources edges x)))) (filter (λ x. urgent x j) candidates_by))

  window_by : Option StartWindow
  window_by =
      cond (is_candidate_by j && nat_le est_by certain_by && is_before est_by limit_by)
      (Some (record { est = est_by; lst = last_before limit_by certain_by })) None

window_is : (table : Table) (set : List ℕ) (ends : List (ℕ × Interval)) (first : Interval) (j : ℕ) →
    start_window table set ends first j ≡ window_by table.edges (length table.jobs) (λ x. (job_at table x).rmin) (λ x. (job_at table x).rmax) (has_urgency_over table) set ends first j
unfolding window_by
window_is table set ends first j = refl

same_window : (edges edges' : List (ℕ × ℕ)) (count count' : ℕ) (rmin rmin' rmax rmax' : ℕ → ℕ) (urgent urgent' : ℕ → ℕ → Bool) (set : List ℕ) (ends : List (ℕ × Interval)) (first : Interval) (j : ℕ) →
    edges' ≡ edges → count' ≡ count → rmin' ≡ rmin → rmax' ≡ rmax → urgent' ≡ urgent →
    window_by edges' count' rmin' rmax' urgent' set ends first j ≡ window_by edges count rmin rmax urgent set ends first j
same_window edges edges' count count' rmin rmin' rmax rmax' urgent urgent' set ends first j a b c d e = cc

same_urgency : (a b c d : Job) → HasReleaseOf a b → HasReleaseOf c d → is_more_urgent b d ≡ is_more_urgent a c
same_urgency a b c d p q = simp (p.priority, p.task, p.job, q.priority, q.task, q.job)

-- ---- what a step looks at

module _ (edges : List (ℕ × ℕ)) (cmin cmax : ℕ) (state : SystemState) (j : ℕ) (window : StartWindow) where
  -- the table as far as a step looks at it beside the costs
  abbrev edges_alone : Table
  edges_alone = record { jobs = []; edges = edges }

  abbrev finish_by : Interval
  finish_by = record { lo = window.est + cmin; hi = window.lst + cmax }

  next_by : SystemState
  next_by =
      let set = with_number j state.set.members in
      record {
        set = record { size = state.set.size; members = set };
        low = after_start window.est finish_by.lo state.low;
        high = after_start window.est finish_by.hi (cap_first state.low (last_predecessors edges_alone state.last.members j) window.lst state.high);
        ends = still_tracked edges_alone set (insert_entry nat_cmp (cut_ends edges_alone j window.lst state.ends) j finish_by);
        last = record { size = state.last.size; members = still_last edges_alone set state.ends state.last.members j window.lst };
      }

next_is : (table : Table) (state : SystemState) (j : ℕ) (window : StartWindow) →
    next table state j window ≡ next_by table.edges (job_at table j).cmin (job_at table j).cmax state j window
unfolding next_by
next_is table state j window = refl

same_next : (edges edges' : List (ℕ × ℕ)) (a b : Job) (state : SystemState) (j : ℕ) (window : StartWindow) → edges' ≡ edges → b ≡ a →
    next_by edges' b.cmin b.cmax state j window ≡ next_by edges a.cmin a.cmax state j window
same_next edges edges' a b state j window p q = cc

module _ (e : ℕ) (before after : Table) (edit : IsEdit e before after) where
  -- No window changes, of whatever job in whatever state.
  pub window-stays : (state : SystemState) (j : ℕ) → state_window after state j ≡ state_window before state j
  window-stays state j =
      window_is after state.set.members state.ends (first_core state) j
      ∙ same_window before.edges after.edges (length before.jobs) (length after.jobs) (λ x. (job_at before x).rmin) (λ x. (job_at after x).rmin)
      (λ x. (job_at before x).rmax) (λ x. (job_at after x).rmax) (has_urgency_over before) (has_urgency_over after) state.set.members state.ends (first_core state) j
      edit.edges edit.count (fun_ext (λ x. (edit.own x).rmin)) (fun_ext (λ x. (edit.own x).rmax))
      (fun_ext (λ x. fun_ext (λ y. same_urgency (job_at before x) (job_at after x) (job_at before y) (job_at after y) (edit.own x) (edit.own y))))
      ∙ sym (window_is before state.set.members state.ends (first_core state) j)

  -- No step of another job changes.
  pub next-stays : (state : SystemState) (j : ℕ) (window : StartWindow) → j ≢ e → next after state j window ≡ next before state j window
  next-stays state j window other =
      next_is after state j window
      ∙ same_next before.edges after.edges (job_at before j) (job_at after j) state j window edit.edges (edit.others j other)
      ∙ sym (next_is before state j window)

-- ---- states that stay

-- The next state stays where the state does and another job starts.
pub stays-next : (e : ℕ) (table : Table) (state : SystemState) (j : ℕ) (window : StartWindow) →
    stays e (next table state j window) ≡ not (eqb j e || is_member e state.set.members)
stays-next e table state j window = ap not (is_member-with_number e j state.set.members)

-- States that touch have one set, and so both stay or neither.
pub apart : (e : ℕ) → AreApart states_touch state_hull (stays e)
apart e = record {
  one_class = λ a b touch.
      let same : same_set a.set b.set ≡ true = (and_parts (same_set a.set b.set) _ touch).0 in
      let members : a.set.members ≡ b.set.members = (bytes_decides a.set.members b.set.members).0 same in
      ap (λ xs. not (is_member e xs)) members;
  keeps_class = λ a b. refl;
}

pub windows_of-stay : (e : ℕ) (before after : Table) → IsEdit e before after → (state : SystemState) → windows_of after state ≡ windows_of before state
windows_of-stay e before after edit state =
    let f : ℕ → Option (ℕ × StartWindow) = λ j. option_map (λ w. (j, w)) (state_window after state j) in
    let g : ℕ → Option (ℕ × StartWindow) = λ j. option_map (λ w. (j, w)) (state_window before state j) in
    let same : f ≡ g = fun_ext (λ j. ap (option_map (λ w. (j, w))) (window-stays e before after edit state j)) in
    ap (λ h. filter_map h (numbers_below (length after.jobs))) same ∙ ap (λ n. filter_map g (numbers_below n)) edit.count

pub windows_stay : WindowsStay
windows_stay e before after edit state j = window-stays e before after edit state j

pub next_stays : NextStays
next_stays e before after edit state j window other = next-stays e before after edit state j window other
