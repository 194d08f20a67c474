-- What is made anew of the edges out of one state is what the definitions say of the edited table.
use Rattle.std.proofs.Common.{◌≡◌, ◌≢◌, ℕ, ◌+◌, Bool, true, false, cond, not, eqb, ◌||◌, List, [], ◌∷◌, ◌++◌, filter, refl, ap, sym, ◌∙◌, subst, append_assoc, append-nil, zero-add, arith}
use Rattle.std.specs.Prelude.{slice_index}
use Rattle.std.specs.List.{fold}
use Rattle.std.proofs.lemmas.List.Sums.{fold-append}
use Rattle.job_sets.specs.Subset.{is_member}
use Rattle.job_model.specs.Table.{Table}
use Rattle.start_windows.specs.declared.StartWindow.{StartWindow}
use Rattle.sag_step.specs.State.{SystemState}
use Rattle.sag_step.specs.Next.{next}
use Rattle.sag_step.specs.Widen.{states_touch, state_hull}
use Rattle.sag_step.specs.Group.{placed, place_of}
use Rattle.graph_rework.specs.declared.link.Link.{Link}
use Rattle.graph_rework.specs.declared.occupant.Occupant.TheVariants.{Stayed, Remade}
use Rattle.graph_rework.specs.Edit.{IsEdit, stays}
use Rattle.graph_rework.specs.Order.{ranks_from}
use Rattle.graph_rework.specs.Links.{offered, links_of}
use Rattle.graph_rework.specs.Rework.{Growing, Reworked, grown, with_remade, place_of_remade, with_stayed, place_of_stayed, link_to, after_step, after_link}
use Rattle.graph_rework.proofs.Grouping.{AreApart-not, IsJoined, filter-put_own, filter-put_other, joined-own, joined-other, ranks-all}
use Rattle.graph_rework.proofs.Windows.{apart, stays-next, next-stays}

true-not : (b : Bool) → b ≡ false → not b ≡ true
true-not b e = ap not e

false-not : (b : Bool) → b ≡ true → not b ≡ false
false-not b e = ap not e

pub eqb-false : (a b : ℕ) → eqb a b ≡ false → a ≢ b
eqb-false a b h e = grind arith

-- ---- classes of what is placed

pub filter-own : (e : ℕ) (ss : List SystemState) (o : SystemState) → stays e o ≡ true → filter (stays e) (placed ss o) ≡ placed (filter (stays e) ss) o
filter-own e ss o h = filter-put_own states_touch state_hull (stays e) (apart e) ss o h

pub filter-other : (e : ℕ) (ss : List SystemState) (o : SystemState) → stays e o ≡ false → filter (stays e) (placed ss o) ≡ filter (stays e) ss
filter-other e ss o h = filter-put_other states_touch state_hull (stays e) (apart e) ss o h

-- ---- one offer

pub record IsPlaced (level after : Growing) (place right : ℕ) : Type 0 where
  pub level_is : level ≡ after
  pub place_is : place ≡ right

-- an offer that has job e
pub offer-placed : (e : ℕ) (ss : List SystemState) (o : SystemState) → stays e o ≡ false →
    IsPlaced (with_remade (grown e ss) o) (grown e (placed ss o)) (place_of_remade (grown e ss) o) (place_of ss o)
offer-placed e ss o h =
    let p : SystemState → Bool = stays e in
    let own : filter (λ s. not (p s)) (placed ss o) ≡ placed (filter (λ s. not (p s)) ss) o =
    filter-put_own states_touch state_hull (λ s. not (p s)) (AreApart-not states_touch state_hull p (apart e)) ss o (true-not (p o) h) in
    let at : IsJoined states_touch state_hull p (apart e) 0 0 ss o (Remade (place_of (filter (λ s. not (p s)) ss) o)) =
    subst (λ n. IsJoined states_touch state_hull p (apart e) 0 0 ss o (Remade n)) (zero-add (place_of (filter (λ s. not (p s)) ss) o)) (joined-other states_touch state_hull p (apart e) 0 0 ss o h) in
    record { level_is = λ i. record { made = sym own i; order = at.order i }; place_is = at.place }

-- an offer that stays
pub kept-placed : (e : ℕ) (ss : List SystemState) (o : SystemState) → stays e o ≡ true →
    IsPlaced (with_stayed (grown e ss) (place_of (filter (stays e) ss) o)) (grown e (placed ss o)) (place_of_stayed (grown e ss) (place_of (filter (stays e) ss) o)) (place_of ss o)
kept-placed e ss o h =
    let p : SystemState → Bool = stays e in
    let other : filter (λ s. not (p s)) (placed ss o) ≡ filter (λ s. not (p s)) ss =
    filter-put_other states_touch state_hull (λ s. not (p s)) (AreApart-not states_touch state_hull p (apart e)) ss o (false-not (p o) h) in
    let at : IsJoined states_touch state_hull p (apart e) 0 0 ss o (Stayed (place_of (filter p ss) o)) =
    subst (λ n. IsJoined states_touch state_hull p (apart e) 0 0 ss o (Stayed n)) (zero-add (place_of (filter p ss) o)) (joined-own states_touch state_hull p (apart e) 0 0 ss o h) in
    record { level_is = λ i. record { made = sym other i; order = at.order i }; place_is = at.place }

-- ---- the edges out of one state

abbrev pub at_states : ℕ → List SystemState → List Link → Reworked
at_states e ss links = record { level = grown e ss; links = links }

-- a next state of one that has job e, and one by job e, have it
pub has-after : (e : ℕ) (table : Table) (s : SystemState) (j : ℕ) (window : StartWindow) → stays e s ≡ false → stays e (next table s j window) ≡ false
has-after e table s j window h =
    stays-next e table s j window ∙ elim (eqb j e) as (λ b. not (b || is_member e s.set.members) ≡ false) [ true ↦ refl | false ↦ h ]

pub has-own : (e : ℕ) (table : Table) (s : SystemState) (j : ℕ) (window : StartWindow) → eqb j e ≡ true → stays e (next table s j window) ≡ false
has-own e table s j window h = stays-next e table s j window ∙ ap (λ b. not (b || is_member e s.set.members)) h

pub stays-after : (e : ℕ) (table : Table) (s : SystemState) (j : ℕ) (window : StartWindow) → stays e s ≡ true → eqb j e ≡ false → stays e (next table s j window) ≡ true
stays-after e table s j window stay h = stays-next e table s j window ∙ ap (λ b. not (b || is_member e s.set.members)) h ∙ stay

step-is : (e : ℕ) (table : Table) (s : SystemState) (ss : List SystemState) (links : List Link) (w : ℕ × StartWindow) → stays e (next table s w.0 w.1) ≡ false →
    after_step table s (at_states e ss links) w ≡ at_states e (placed ss (next table s w.0 w.1)) (links ++ link_to w (place_of ss (next table s w.0 w.1)) ∷ [])
step-is e table s ss links w h =
    let at = offer-placed e ss (next table s w.0 w.1) h in
    λ i. record { level = at.level_is i; links = links ++ link_to w (at.place_is i) ∷ [] }

-- The edges out of a state that has job e: a step for each.
pub steps-are : (e : ℕ) (table : Table) (s : SystemState) (ss : List SystemState) (links : List Link) (windows : List (ℕ × StartWindow)) → stays e s ≡ false →
    fold (after_step table s) (at_states e ss links) windows ≡ at_states e (fold placed ss (offered table s windows)) (links ++ links_of table s ss windows)
steps-are e table s ss links [] h = ap (at_states e ss) (sym (append-nil links))
steps-are e table s ss links (w ∷ windows) h =
    ap (λ r. fold (after_step table s) r windows) (step-is e table s ss links w (has-after e table s w.0 w.1 h))
    ∙ steps-are e table s (placed ss (next table s w.0 w.1)) (links ++ link_to w (place_of ss (next table s w.0 w.1)) ∷ []) windows h
    ∙ ap (at_states e (fold placed ss (offered table s (w ∷ windows)))) (append_assoc links (link_to w (place_of ss (next table s w.0 w.1)) ∷ []) (links_of table s (placed ss (next table s w.0 w.1)) windows))

module _ (e : ℕ) (before after : Table) (edit : IsEdit e before after) (s : SystemState) (stay : stays e s ≡ true) (ranks : List ℕ) (more : List SystemState) where
  kept-is : (old ss : List SystemState) (links : List Link) (w : ℕ × StartWindow) (rest : List SystemState) → eqb w.0 e ≡ false → filter (stays e) old ≡ filter (stays e) ss →
      ranks ≡ ranks_from (stays e) 0 (fold placed (placed old (next before s w.0 w.1)) rest) →
      after_link after e s ranks (at_states e ss links) (link_to w (place_of old (next before s w.0 w.1)))
      ≡ at_states e (placed ss (next after s w.0 w.1)) (links ++ link_to w (place_of ss (next after s w.0 w.1)) ∷ [])
  kept-is old ss links w rest other same ranks_are =
      let o : SystemState = next after s w.0 w.1 in
      let one : next before s w.0 w.1 ≡ o = sym (next-stays e before after edit s w.0 w.1 (eqb-false w.0 e other)) in
      let own : stays e o ≡ true = stays-after e after s w.0 w.1 stay other in
      let old_own : stays e (next before s w.0 w.1) ≡ true = stays-after e before s w.0 w.1 stay other in
      let rank : slice_index ranks (place_of old (next before s w.0 w.1)) ≡ place_of (filter (stays e) ss) o =
      ap (λ rs. slice_index rs (place_of old (next before s w.0 w.1))) ranks_are
      ∙ ranks-all states_touch state_hull (stays e) (apart e) old rest (next before s w.0 w.1) old_own
      ∙ ap (λ xs. place_of xs (next before s w.0 w.1)) same ∙ ap (λ n. place_of (filter (stays e) ss) n) one in
      let at = kept-placed e ss o own in
      ap (λ b. cond b (after_step after s (at_states e ss links) w)
      (record {
        level = with_stayed (grown e ss) (slice_index ranks (place_of old (next before s w.0 w.1)));
        links = links ++ link_to w (place_of_stayed (grown e ss) (slice_index ranks (place_of old (next before s w.0 w.1)))) ∷ [];
      })) other
      ∙ ap (λ r. record { level = with_stayed (grown e ss) r; links = links ++ link_to w (place_of_stayed (grown e ss) r) ∷ [] }) rank
      ∙ (λ i. record { level = at.level_is i; links = links ++ link_to w (at.place_is i) ∷ [] })

  -- an edge by job e: a step
  own-is : (old ss : List SystemState) (links : List Link) (w : ℕ × StartWindow) → eqb w.0 e ≡ true →
      after_link after e s ranks (at_states e ss links) (link_to w (place_of old (next before s w.0 w.1)))
      ≡ at_states e (placed ss (next after s w.0 w.1)) (links ++ link_to w (place_of ss (next after s w.0 w.1)) ∷ [])
  own-is old ss links w own =
      ap (λ b. cond b (after_step after s (at_states e ss links) w)
      (record {
        level = with_stayed (grown e ss) (slice_index ranks (place_of old (next before s w.0 w.1)));
        links = links ++ link_to w (place_of_stayed (grown e ss) (slice_index ranks (place_of old (next before s w.0 w.1)))) ∷ [];
      })) own
      ∙ step-is e after s ss links w (has-own e after s w.0 w.1 own)

  -- the states that stay are one, once the offer is placed on both sides
  same-after : (old ss : List SystemState) (w : ℕ × StartWindow) (b : Bool) → eqb w.0 e ≡ b → filter (stays e) old ≡ filter (stays e) ss →
      filter (stays e) (placed old (next before s w.0 w.1)) ≡ filter (stays e) (placed ss (next after s w.0 w.1))
  same-after old ss w true own same =
      filter-other e old (next before s w.0 w.1) (has-own e before s w.0 w.1 own) ∙ same ∙ sym (filter-other e ss (next after s w.0 w.1) (has-own e after s w.0 w.1 own))
  same-after old ss w false other same =
      filter-own e old (next before s w.0 w.1) (stays-after e before s w.0 w.1 stay other) ∙ ap (λ xs. placed xs (next before s w.0 w.1)) same
      ∙ ap (placed (filter (stays e) ss)) (sym (next-stays e before after edit s w.0 w.1 (eqb-false w.0 e other)))
      ∙ sym (filter-own e ss (next after s w.0 w.1) (stays-after e after s w.0 w.1 stay other))

  -- The edges out of a state that stays: those of before the edit, with a step for each that starts job e.
  pub links-are : (old ss : List SystemState) (links : List Link) (windows : List (ℕ × StartWindow)) → filter (stays e) old ≡ filter (stays e) ss →
      ranks ≡ ranks_from (stays e) 0 (fold placed (fold placed old (offered before s windows)) more) →
      fold (after_link after e s ranks) (at_states e ss links) (links_of before s old windows)
      ≡ at_states e (fold placed ss (offered after s windows)) (links ++ links_of after s ss windows)
  links-are old ss links [] same ranks_are = ap (at_states e ss) (sym (append-nil links))
  links-are old ss links (w ∷ windows) same ranks_are =
      let here : after_link after e s ranks (at_states e ss links) (link_to w (place_of old (next before s w.0 w.1)))
      ≡ at_states e (placed ss (next after s w.0 w.1)) (links ++ link_to w (place_of ss (next after s w.0 w.1)) ∷ []) =
      elim (eqb w.0 e) as (λ b. eqb w.0 e ≡ b → after_link after e s ranks (at_states e ss links) (link_to w (place_of old (next before s w.0 w.1)))
      ≡ at_states e (placed ss (next after s w.0 w.1)) (links ++ link_to w (place_of ss (next after s w.0 w.1)) ∷ [])) [
        | true ↦ λ h. own-is old ss links w h
        | false ↦ λ h. kept-is old ss links w (offered before s windows ++ more) h same
            (ranks_are ∙ ap (ranks_from (stays e) 0) (sym (fold-append placed (placed old (next before s w.0 w.1)) (offered before s windows) more)))
      ] refl in
      ap (λ r. fold (after_link after e s ranks) r (links_of before s (placed old (next before s w.0 w.1)) windows)) here
      ∙ links-are (placed old (next before s w.0 w.1)) (placed ss (next after s w.0 w.1)) (links ++ link_to w (place_of ss (next after s w.0 w.1)) ∷ []) windows
      (same-after old ss w (eqb w.0 e) refl same) ranks_are
      ∙ ap (at_states e (fold placed ss (offered after s (w ∷ windows)))) (append_assoc links (link_to w (place_of ss (next after s w.0 w.1)) ∷ []) (links_of after s (placed ss (next after s w.0 w.1)) windows))
