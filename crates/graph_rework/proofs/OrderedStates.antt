-- What stands at the places of an order is the level.
use Rattle.std.proofs.Common.{◌≡◌, ℕ, ◌+◌, Bool, true, false, cond, not, List, [], ◌∷◌, drop, map, filter, refl, ap, ◌∙◌}
use Rattle.sag_step.specs.State.{SystemState}
use Rattle.graph_rework.specs.declared.occupant.Occupant.TheVariants.{Stayed, Remade}
use Rattle.graph_rework.specs.Edit.{stays}
use Rattle.graph_rework.specs.Order.{order_from}
use Rattle.graph_rework.specs.Remake.{no_state, occupant_state}
use Rattle.graph_rework.specs.Laws.{OrderGivesStates}
use Rattle.graph_rework.proofs.Levels.{drop-head, drop-tail}

states-by : (p : SystemState → Bool) (kept made : List SystemState) (states : List SystemState) (k m : ℕ) → drop k kept ≡ filter p states → drop m made ≡ filter (λ s. not (p s)) states →
    map (occupant_state kept made) (order_from p k m states) ≡ states
states-by p kept made [] k m one two = refl
states-by p kept made (s ∷ states) k m one two =
    elim (p s) as (λ b. drop k kept ≡ cond b (s ∷ filter p states) (filter p states) → drop m made ≡ cond (not b) (s ∷ filter (λ s. not (p s)) states) (filter (λ s. not (p s)) states) →
    map (occupant_state kept made) (cond b (Stayed k ∷ order_from p (k + 1) m states) (Remade m ∷ order_from p k (m + 1) states)) ≡ s ∷ states) [
      | true ↦ λ a b.
          ap (λ x. x ∷ map (occupant_state kept made) (order_from p (k + 1) m states)) (drop-head k kept s (filter p states) no_state a)
          ∙ ap (λ xs. s ∷ xs) (states-by p kept made states (k + 1) m (drop-tail k kept s (filter p states) a) b)
      | false ↦ λ a b.
          ap (λ x. x ∷ map (occupant_state kept made) (order_from p k (m + 1) states)) (drop-head m made s (filter (λ s. not (p s)) states) no_state b)
          ∙ ap (λ xs. s ∷ xs) (states-by p kept made states k (m + 1) a (drop-tail m made s (filter (λ s. not (p s)) states) b))
    ] one two

pub order_gives_states : OrderGivesStates
order_gives_states e states = states-by (stays e) (filter (stays e) states) (filter (λ s. not (stays e s)) states) states 0 0 refl refl
