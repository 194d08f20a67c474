-- The pass over prospects by falling urgency, step by step.
use Rattle.std.proofs.Common.{◌≡◌, ◌∙◌, ℕ, suc, ◌+◌, ◌-◌, ◌<◌, ◌≤◌, true, List, [], ◌∷◌, ◌++◌, length, map, max, min, take, drop, get_or, Option, sym, ap, subst}
use Rattle.std.specs.Prelude.{filter}
use Rattle.std.specs.List.{AllByRecursion, cons_option, filter_map}
use Rattle.std.specs.Option.{option_map}
use Rattle.std.proofs.lemmas.List.{append-nil, drop_more, map-append, take-append-drop, take_more}
use Rattle.std.proofs.lemmas.List.Elements.{All-take, filter_map-append, recursion_from_All}
use Rattle.job_sets.specs.Subset.{is_rising}
use Rattle.job_model.specs.Table.{Table, IsTable, has_urgency_over}
use Rattle.job_model.proofs.RankLaws.{ranks_order}
use Rattle.sag_time.specs.Interval.{Interval}
use Rattle.start_windows.specs.declared.StartWindow.{StartWindow}
use Rattle.start_windows.specs.declared.eligibility.Prospect.{Prospect}
use Rattle.start_windows.specs.Window.{earliest_start, ready_beside}
use Rattle.start_windows.specs.Prospects.{AreProspects, cap_behind, cap_over, capped, jobs_of, offer_over, window_of, window_over}
use Rattle.start_windows.proofs.ByUrgency.{IsLast, IsLast-more, Own, cap_behind-is, none_behind, urgent_in_front}
use Rattle.start_windows.proofs.Collecting.{offer_more}
use Rattle.start_windows.proofs.Held.{IsHeld}

-- one more prospect
pub front_more : (all : List Prospect) (place : ℕ) (x : Prospect) → place < length all → x ≡ get_or all place x → take (place + 1) all ≡ take place all ++ x ∷ []
front_more all place x below is = take_more all place x below ∙ ap (λ y. take place all ++ y ∷ []) (sym is)

pub IsLast-at : (certain last : ℕ) (all : List Prospect) (place : ℕ) (x : Prospect) → place < length all → x ≡ get_or all place x → IsLast certain last (take place all) → 0 < x.latest → IsLast certain (min last (x.latest - 1)) (take (place + 1) all)
IsLast-at certain last all place x below is so_far after = subst (IsLast certain (min last (x.latest - 1))) (sym (front_more all place x below is)) (IsLast-more certain last (take place all) x so_far after)

split_at : (all : List Prospect) (place : ℕ) (x : Prospect) → place < length all → x ≡ get_or all place x → all ≡ take place all ++ x ∷ drop (place + 1) all
split_at all place x below is = sym (take-append-drop place all) ∙ ap (λ l. take place all ++ l) (drop_more all place x below) ∙ ap (λ y. take place all ++ y ∷ drop (place + 1) all) (sym is)

module _ (table : Table) (is_table : IsTable table) (ends : List (ℕ × Interval)) (first : Interval) (certain : ℕ) (all : List Prospect) (own : AreProspects table ends all) (up : is_rising (map (λ c. c.rank) all) ≡ true) where
  -- the list in two parts, each looked up and by rank
  own_split : (place : ℕ) (x : Prospect) → place < length all → x ≡ get_or all place x →
      AllByRecursion (Own table ends) (take place all ++ x ∷ drop (place + 1) all) × (is_rising (map (λ c. c.rank) (take place all ++ x ∷ drop (place + 1) all)) ≡ true)
  own_split place x below is =
      subst (λ (l : List Prospect). AllByRecursion (Own table ends) l × (is_rising (map (λ c. c.rank) l) ≡ true)) (split_at all place x below is) (recursion_from_All (Own table ends) all own, up)

  -- the window behind the front is the window among all
  pub window_at : (place : ℕ) (x : Prospect) (last : ℕ) (held : List Prospect) → place < length all → x ≡ get_or all place x → IsLast certain last (take place all) → IsHeld table ends (take place all) held →
      window_of (max x.earliest first.lo) (cap_behind table ends last (jobs_of held) x.job) ≡ window_over table ends first certain (jobs_of all) x.job
  window_at place x last held below is so_far kept =
      let before = take place all in
      let after = drop (place + 1) all in
      let split = split_at all place x below is in
      let parts = own_split place x below is in
      let looked = subst (λ (y : Prospect). Own table ends y) (sym is) (own place x below) in
      let seen = recursion_from_All (Own table ends) before (All-take (Own table ends) place all own) in
      let urgent : filter (λ y. has_urgency_over table y x.job) (jobs_of all) ≡ jobs_of before =
      ap (λ (l : List Prospect). filter (λ y. has_urgency_over table y x.job) (jobs_of l)) split ∙ urgent_in_front ranks_order table is_table ends before x after parts.0 parts.1 in
      let cap : cap_behind table ends last (jobs_of held) x.job ≡ cap_over table ends certain (jobs_of all) x.job =
      cap_behind-is table ends certain last before held x.job seen so_far (kept.limits x.job) ∙ ap (λ l. capped (suc certain) (map (ready_beside table ends x.job) l)) (sym urgent) in
      let est : max x.earliest first.lo ≡ earliest_start table ends first x.job = ap (λ (y : Prospect). max y.earliest first.lo) looked.0 in
      ap (window_of (max x.earliest first.lo)) cap ∙ ap (λ n. window_of n (cap_over table ends certain (jobs_of all) x.job)) est

  abbrev offer : ℕ → Option (ℕ × StartWindow)
  offer = offer_over table ends first certain (jobs_of all)

  -- one more job, with its window if it has one
  pub offer_at : (place : ℕ) (x : Prospect) (window : Option StartWindow) (before into : List (ℕ × StartWindow)) → place < length all → x ≡ get_or all place x → window ≡ window_over table ends first certain (jobs_of all) x.job →
      before ≡ filter_map offer (jobs_of (take place all)) → into ≡ before ++ cons_option (option_map (λ w. (x.job, w)) window) [] → into ≡ filter_map offer (jobs_of (take (place + 1) all))
  offer_at place x window before into below is own_window so_far pushed =
      pushed ∙ ap (λ l. l ++ cons_option (option_map (λ w. (x.job, w)) window) []) so_far
      ∙ ap (λ (o : Option StartWindow). filter_map offer (jobs_of (take place all)) ++ cons_option (option_map (λ w. (x.job, w)) o) []) own_window ∙ sym (offer_more offer all place x below is)

  -- no job behind one that is certainly ready by then has a window
  pub cut_at : (place : ℕ) (x : Prospect) → place < length all → x ≡ get_or all place x → x.latest ≤ first.lo → filter_map offer (jobs_of (take (place + 1) all)) ≡ filter_map offer (jobs_of all)
  cut_at place x below is early =
      let before = take place all in
      let after = drop (place + 1) all in
      let split = split_at all place x below is in
      let parts = own_split place x below is in
      let more = take (place + 1) all in
      let none : filter_map offer (jobs_of after) ≡ [] =
      ap (λ (l : List Prospect). filter_map (offer_over table ends first certain (jobs_of l)) (jobs_of after)) split ∙ none_behind ranks_order table is_table ends first certain before x after parts.0 parts.1 early in
      sym (ap (λ (l : List Prospect). filter_map offer (jobs_of l)) (sym (take-append-drop (place + 1) all)) ∙ ap (filter_map offer) (map-append (λ (c : Prospect). c.job) more after)
      ∙ filter_map-append offer (jobs_of more) (jobs_of after) ∙ ap (λ l. filter_map offer (jobs_of more) ++ l) none ∙ append-nil (filter_map offer (jobs_of more)))
