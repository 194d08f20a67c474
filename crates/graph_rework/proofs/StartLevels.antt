-- Levels before the first edge of the edited job stay whole.
use Rattle.std.proofs.Common.{◌≡◌, ℕ, zero, suc, ◌+◌, Bool, true, false, not, eqb, List, [], ◌∷◌, ◌++◌, refl, ap, sym, ◌∙◌, arith}
use Rattle.std.specs.List.{fold, list_all}
use Rattle.std.proofs.lemmas.Bool.{and_parts}
use Rattle.job_model.specs.Table.{Table}
use Rattle.start_windows.specs.declared.StartWindow.{StartWindow}
use Rattle.sag_step.specs.State.{SystemState, root}
use Rattle.sag_step.specs.Next.{next}
use Rattle.sag_step.specs.Group.{placed, place_of}
use Rattle.sag_graph.specs.Levels.{Level, level_at, next_level}
use Rattle.graph_rework.specs.declared.link.Link.{Link}
use Rattle.graph_rework.specs.Edit.{IsEdit}
use Rattle.graph_rework.specs.Links.{edges_from, offered, links_of, links_out, taken_after, windows_of}
use Rattle.graph_rework.specs.Remake.{all_offered}
use Rattle.graph_rework.specs.Laws.{StartStays}
use Rattle.graph_rework.proofs.Windows.{next-stays, windows_of-stay}
use Rattle.graph_rework.proofs.Reworks.{eqb-false}
use Rattle.graph_rework.proofs.LevelOffers.{links_are_edges, states-are}

not-true : (b : Bool) → not b ≡ true → b ≡ false
not-true true h = absurd (cc)
not-true false h = refl

module _ (e : ℕ) (before after : Table) (edit : IsEdit e before after) where
  abbrev Lacks : List Link → Bool
  Lacks links = list_all (λ l. not (eqb l.job e)) links

  -- the edges out of a state, and the next states, where none starts job e
  own-stay : (s : SystemState) (taken : List SystemState) (ws : List (ℕ × StartWindow)) → Lacks (links_of before s taken ws) ≡ true →
      (links_of after s taken ws ≡ links_of before s taken ws) × (offered after s ws ≡ offered before s ws)
  own-stay s taken [] h = (refl, refl)
  own-stay s taken (w ∷ ws) h =
      let parts = and_parts (not (eqb w.0 e)) (Lacks (links_of before s (placed taken (next before s w.0 w.1)) ws)) h in
      let o : next after s w.0 w.1 ≡ next before s w.0 w.1 = next-stays e before after edit s w.0 w.1 (eqb-false w.0 e (not-true (eqb w.0 e) parts.0)) in
      let rest = own-stay s (placed taken (next before s w.0 w.1)) ws parts.1 in
      let link : SystemState → Link = λ x. record { job = w.0; window = w.1; to = place_of taken x } in (
        ap (λ x. link x ∷ links_of after s (placed taken x) ws) o ∙ ap (λ ls. link (next before s w.0 w.1) ∷ ls) rest.0,
        ap (λ x. x ∷ offered after s ws) o ∙ ap (λ os. next before s w.0 w.1 ∷ os) rest.1,
      )

  all-stay : (taken states : List SystemState) → list_all Lacks (links_out before taken states) ≡ true →
      (links_out after taken states ≡ links_out before taken states) × (all_offered after states ≡ all_offered before states)
  all-stay taken [] h = (refl, refl)
  all-stay taken (s ∷ states) h =
      let ws : List (ℕ × StartWindow) = windows_of before s in
      let later : List SystemState = taken_after before taken s in
      let parts = and_parts (Lacks (links_of before s taken ws)) (list_all Lacks (links_out before later states)) h in
      let own = own-stay s taken ws parts.0 in
      let rest = all-stay later states parts.1 in
      let same : windows_of after s ≡ ws = windows_of-stay e before after edit s in (
        ap (λ vs. links_of after s taken vs ∷ links_out after (fold placed taken (offered after s vs)) states) same
            ∙ ap (λ os. links_of after s taken ws ∷ links_out after (fold placed taken os) states) own.1
            ∙ ap (λ ls. ls ∷ links_out after later states) own.0 ∙ ap (λ ls. links_of before s taken ws ∷ ls) rest.0,
        ap (λ vs. offered after s vs ++ all_offered after states) same ∙ ap (λ os. os ++ all_offered after states) own.1
            ∙ ap (λ os. offered before s ws ++ os) rest.1,
      )

  level-stays : (states : List SystemState) → list_all Lacks (links_out before [] states) ≡ true → next_level after states ≡ next_level before states
  level-stays states h =
      let all = all-stay [] states h in
      let own : (next_level after states).states ≡ (next_level before states).states = states-are after states ∙ ap (fold placed []) all.1 ∙ sym (states-are before states) in
      let edges : (next_level after states).edges ≡ (next_level before states).edges = links_are_edges after states ∙ ap edges_from all.0 ∙ sym (links_are_edges before states) in
      λ i. record { states = own i; edges = edges i }

pub start_stays : StartStays
unfolding level_at
start_stays e before after edit m zero none =
    ap (λ n. record {
      states = record { set = record { size = n; members = [] }; low = (root before m).low; high = (root before m).high; ends = []; last = record { size = n; members = [] } } ∷ [];
      edges = [];
    }) edit.count
start_stays e before after edit m (suc k) none =
    ap (λ (l : Level). next_level after l.states) (start_stays e before after edit m k (λ j h. none j (omega (arith, h))))
    ∙ level-stays e before after edit (level_at before m k).states (none k (omega arith))
