-- The edges of a level tell the totals of states and edges after each offer.
use Rattle.std.proofs.Common.{◌≡◌, ℕ, suc, ◌+◌, Bool, true, false, cond, not, max, List, [], ◌∷◌, length, refl, ap, sym, ◌∙◌, arith}
use Rattle.sag_step.specs.State.{SystemState}
use Rattle.sag_step.specs.Widen.{states_touch, state_hull}
use Rattle.sag_step.specs.Offers.{Offer, offers}
use Rattle.sag_step.specs.Group.{placed, place_of}
use Rattle.sag_graph.specs.Budget.{Spending, spendings_into}
use Rattle.sag_graph.specs.Levels.{edges_into, next_level}
use Rattle.graph_rework.specs.Spend.{totals_by}
use Rattle.graph_rework.specs.Laws.{EdgesTellTotals}

length-after_at : (s : SystemState) (ss : List SystemState) (o : SystemState) (t : Bool) → states_touch s o ≡ t → length (placed ss o) ≡ max (length ss) (place_of ss o + 1) →
    length (placed (s ∷ ss) o) ≡ max (suc (length ss)) (place_of (s ∷ ss) o + 1)
length-after_at s ss o true e ih =
    ap (λ t. length (cond t (state_hull s o ∷ ss) (s ∷ placed ss o))) e
    ∙ (let one : suc (length ss) ≡ max (suc (length ss)) (0 + 1) = omega arith in one)
    ∙ sym (ap (λ t. max (suc (length ss)) (cond (not t) (1 + place_of ss o) 0 + 1)) e)
length-after_at s ss o false e ih =
    let n : ℕ = place_of ss o in
    ap (λ t. length (cond t (state_hull s o ∷ ss) (s ∷ placed ss o))) e
    ∙ (let one : suc (length (placed ss o)) ≡ max (suc (length ss)) (1 + n + 1) = omega (arith, ih) in one)
    ∙ sym (ap (λ t. max (suc (length ss)) (cond (not t) (1 + n) 0 + 1)) e)

-- A state that is appended has the next number.
length-after : (ss : List SystemState) (o : SystemState) → length (placed ss o) ≡ max (length ss) (place_of ss o + 1)
length-after [] o = refl
length-after (s ∷ ss) o = length-after_at s ss o (states_touch s o) refl (length-after ss o)

abbrev one_edge_more : Spending → Spending
one_edge_more before = record { level = before.level; states = before.states; edges = before.edges + 1 }

totals-are : (before : Spending) (ss : List SystemState) (os : List Offer) → totals_by before (length ss) (edges_into ss os) ≡ spendings_into before ss os
totals-are before ss [] = refl
totals-are before ss (o ∷ os) =
    let totals : ℕ → Spending = λ n. record { level = before.level; states = before.states + n; edges = before.edges + 1 } in
    ap (λ n. totals n ∷ totals_by (one_edge_more before) n (edges_into (placed ss o.next) os)) (sym (length-after ss o.next))
    ∙ ap (λ ts. totals (length (placed ss o.next)) ∷ ts) (totals-are (one_edge_more before) (placed ss o.next) os)

pub edges_tell_totals : EdgesTellTotals
unfolding next_level
edges_tell_totals table before states = totals-are before [] (offers table states)
