-- Each edge that is made anew costs one step, and no other edge costs one.
use Rattle.std.proofs.Common.{◌≡◌, ℕ, zero, suc, ◌+◌, Bool, true, false, cond, not, eqb, List, [], ◌∷◌, drop, filter, length, map, get_or, refl, ap, sym, ◌∙◌}
use Rattle.std.specs.List.{count_by, sum_by}
use Rattle.std.proofs.lemmas.List.Sums.{sum_by-cons}
use Rattle.sag_time.proofs.Counts.{count_by-cons, one_if}
use Rattle.job_model.specs.Table.{Table}
use Rattle.start_windows.specs.declared.StartWindow.{StartWindow}
use Rattle.sag_step.specs.State.{SystemState}
use Rattle.sag_step.specs.Next.{next}
use Rattle.sag_step.specs.Group.{placed, place_of}
use Rattle.graph_rework.specs.declared.link.Link.{Link}
use Rattle.graph_rework.specs.declared.occupant.Occupant.{Occupant}
use Rattle.graph_rework.specs.declared.occupant.Occupant.TheVariants.{Stayed, Remade}
use Rattle.graph_rework.specs.Edit.{IsEdit, stays}
use Rattle.graph_rework.specs.Order.{order_from}
use Rattle.graph_rework.specs.Links.{links_of, links_out, taken_after, windows_of}
use Rattle.graph_rework.specs.Remake.{no_state, selected, steps_at}
use Rattle.graph_rework.specs.Bound.{links_reworked, own_reworked}
use Rattle.graph_rework.specs.Laws.{StepsAreCounted}
use Rattle.graph_rework.proofs.CountedRework.{rework_is_counted}
use Rattle.graph_rework.proofs.Levels.{drop-head, drop-tail}
use Rattle.graph_rework.proofs.Windows.{windows_of-stay}

length-links : (table : Table) (s : SystemState) (taken : List SystemState) (ws : List (ℕ × StartWindow)) → length (links_of table s taken ws) ≡ length ws
length-links table s taken [] = refl
length-links table s taken (w ∷ ws) = ap suc (length-links table s (placed taken (next table s w.0 w.1)) ws)

-- how many start job e depends on the windows alone
count-links : (e : ℕ) (table : Table) (s : SystemState) (taken : List SystemState) (ws : List (ℕ × StartWindow)) →
    count_by (λ l. eqb l.job e) (links_of table s taken ws) ≡ count_by (λ w. eqb w.0 e) ws
count-links e table s taken [] = refl
count-links e table s taken (w ∷ ws) =
    let later : List Link = links_of table s (placed taken (next table s w.0 w.1)) ws in
    let l : Link = record { job = w.0; window = w.1; to = place_of taken (next table s w.0 w.1) } in
    count_by-cons (λ (x : Link). eqb x.job e) l later
    ∙ ap (λ n. one_if (eqb w.0 e) + n) (count-links e table s (placed taken (next table s w.0 w.1)) ws)
    ∙ sym (count_by-cons (λ (x : ℕ × StartWindow). eqb x.0 e) w ws)

abbrev own_count : ℕ → List Link → ℕ
own_count e ls = count_by (λ l. eqb l.job e) ls

abbrev window_count : ℕ → Table → SystemState → ℕ
window_count e table s = count_by (λ w. eqb w.0 e) (windows_of table s)

get-counts : (e : ℕ) (links : List (List Link)) (k : ℕ) → own_count e (get_or links k []) ≡ get_or (map (own_count e) links) k 0
get-counts e [] k = refl
get-counts e (l ∷ links) zero = refl
get-counts e (l ∷ links) (suc k) = get-counts e links k

-- of the states that stay, how many edges before the edit start job e
selected-counts : (e : ℕ) (before : Table) (taken old : List SystemState) →
    map (own_count e) (selected (stays e) old (links_out before taken old)) ≡ map (window_count e before) (filter (stays e) old)
selected-counts e before taken [] = refl
selected-counts e before taken (s ∷ old) =
    let own : List Link = links_of before s taken (windows_of before s) in
    let later : List (List Link) = selected (stays e) old (links_out before (taken_after before taken s) old) in
    let rest = selected-counts e before (taken_after before taken s) old in
    elim (stays e s) as (λ b. map (own_count e) (cond b (own ∷ later) later) ≡ map (window_count e before) (cond b (s ∷ filter (stays e) old) (filter (stays e) old))) [
      | true ↦ ap (λ n. n ∷ map (own_count e) later) (count-links e before s taken (windows_of before s)) ∙ ap (λ ns. window_count e before s ∷ ns) rest
      | false ↦ rest
    ]

module _ (e : ℕ) (after : Table) (links : List (List Link)) (made : List SystemState) where
  stayed-cost : (s : SystemState) (taken : List SystemState) (k : ℕ) (ns : List ℕ) → stays e s ≡ true → drop k (map (own_count e) links) ≡ window_count e after s ∷ ns →
      steps_at after e links made (Stayed k) ≡ own_reworked e s (links_of after s taken (windows_of after s))
  stayed-cost s taken k ns stay at =
      get-counts e links k ∙ drop-head k (map (own_count e) links) (window_count e after s) ns 0 at ∙ sym (count-links e after s taken (windows_of after s))
      ∙ sym (ap (λ b. cond b (own_count e (links_of after s taken (windows_of after s))) (length (links_of after s taken (windows_of after s)))) stay)

  remade-cost : (s : SystemState) (taken : List SystemState) (m : ℕ) (ss : List SystemState) → stays e s ≡ false → drop m made ≡ s ∷ ss →
      steps_at after e links made (Remade m) ≡ own_reworked e s (links_of after s taken (windows_of after s))
  remade-cost s taken m ss has_job at =
      ap (λ x. length (windows_of after x)) (drop-head m made s ss no_state at) ∙ sym (length-links after s taken (windows_of after s))
      ∙ sym (ap (λ b. cond b (own_count e (links_of after s taken (windows_of after s))) (length (links_of after s taken (windows_of after s)))) has_job)

  abbrev Costs : List SystemState → ℕ → ℕ → Type 0
  Costs states k m =
      (taken : List SystemState) → drop k (map (own_count e) links) ≡ map (window_count e after) (filter (stays e) states) → drop m made ≡ filter (λ s. not (stays e s)) states →
      sum_by (steps_at after e links made) (order_from (stays e) k m states) ≡ links_reworked e states (links_out after taken states)

  one-more : (s : SystemState) (states taken : List SystemState) (x : Occupant) (order : List Occupant) →
      steps_at after e links made x ≡ own_reworked e s (links_of after s taken (windows_of after s)) →
      sum_by (steps_at after e links made) order ≡ links_reworked e states (links_out after (taken_after after taken s) states) →
      sum_by (steps_at after e links made) (x ∷ order) ≡ links_reworked e (s ∷ states) (links_out after taken (s ∷ states))
  one-more s states taken x order own rest =
      sum_by-cons (steps_at after e links made) x order ∙ ap (λ n. n + sum_by (steps_at after e links made) order) own
      ∙ ap (λ n. own_reworked e s (links_of after s taken (windows_of after s)) + n) rest

  costs-by : (s : SystemState) (states : List SystemState) (k m : ℕ) (taken : List SystemState) (b : Bool) → stays e s ≡ b → Costs states (k + 1) m → Costs states k (m + 1) →
      drop k (map (own_count e) links) ≡ map (window_count e after) (cond b (s ∷ filter (stays e) states) (filter (stays e) states)) →
      drop m made ≡ cond (not b) (s ∷ filter (λ s. not (stays e s)) states) (filter (λ s. not (stays e s)) states) →
      sum_by (steps_at after e links made) (cond b (Stayed k ∷ order_from (stays e) (k + 1) m states) (Remade m ∷ order_from (stays e) k (m + 1) states))
      ≡ links_reworked e (s ∷ states) (links_out after taken (s ∷ states))
  costs-by s states k m taken true h one two at_links at_made =
      let ns : List ℕ = map (window_count e after) (filter (stays e) states) in
      one-more s states taken (Stayed k) (order_from (stays e) (k + 1) m states) (stayed-cost s taken k ns h at_links)
      (one (taken_after after taken s) (drop-tail k (map (own_count e) links) (window_count e after s) ns at_links) at_made)
  costs-by s states k m taken false h one two at_links at_made =
      let ss : List SystemState = filter (λ s. not (stays e s)) states in
      one-more s states taken (Remade m) (order_from (stays e) k (m + 1) states) (remade-cost s taken m ss h at_made)
      (two (taken_after after taken s) at_links (drop-tail m made s ss at_made))

  costs : (states : List SystemState) (k m : ℕ) → Costs states k m
  costs [] k m taken at_links at_made = refl
  costs (s ∷ states) k m taken at_links at_made = costs-by s states k m taken (stays e s) refl (costs states (k + 1) m) (costs states k (m + 1)) at_links at_made

same-counts : (e : ℕ) (before after : Table) → IsEdit e before after → (states : List SystemState) → map (window_count e before) states ≡ map (window_count e after) states
same-counts e before after edit [] = refl
same-counts e before after edit (s ∷ states) =
    ap (λ ws. count_by (λ w. eqb w.0 e) ws ∷ map (window_count e before) states) (sym (windows_of-stay e before after edit s))
    ∙ ap (λ ns. window_count e after s ∷ ns) (same-counts e before after edit states)

pub steps_are_counted : StepsAreCounted
steps_are_counted e before after edit old new same =
    costs e after (selected (stays e) old (links_out before [] old)) (filter (λ s. not (stays e s)) new) new 0 0 []
    (selected-counts e before [] old ∙ ap (map (window_count e before)) (sym same) ∙ same-counts e before after edit (filter (stays e) new)) refl
    ∙ sym (rework_is_counted e after new)
