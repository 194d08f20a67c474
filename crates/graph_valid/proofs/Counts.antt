-- How many states and edges a graph has that does not exceed its budget.
use Rattle.std.proofs.Common.{◌≡◌, ℕ, zero, suc, ◌+◌, ◌*◌, ◌<◌, ◌≤◌, Bool, true, false, cond, List, [], ◌∷◌, length, refl, sym, ap, arith, Option, Some, None}
use Rattle.std.specs.Prelude.{IsNone, nat_lt, not}
use Rattle.std.specs.List.{AllByRecursion, fold}
use Rattle.std.proofs.lemmas.Bool.{or_parts, ltb-false, false≢true}
use Rattle.lists.specs.Zipped.{zip_with}
use Rattle.sag_step.specs.State.{SystemState}
use Rattle.sag_step.specs.Widen.{states_touch, state_hull}
use Rattle.sag_step.specs.Offers.{Offer, offers}
use Rattle.sag_step.specs.Group.{placed, place_of, places_of, group}
use Rattle.job_model.specs.Table.{Table}
use Rattle.sag_graph.specs.declared.edge.Edge.{Edge}
use Rattle.sag_graph.specs.Levels.{edge_to}
use Rattle.graph_valid.proofs.FromRoot.{FoundedLevel, levels_after}
use Rattle.graph_valid.proofs.FromRootBudget.{Excess, is_over, excess_at, first_excess, excess_after}
use Rattle.graph_valid.proofs.Grouped.{nexts}

-- ---- the states of a level

none_since : (b : Bool) (x : Excess) (o : Option Excess) → IsNone (cond b (Some x) o) → (b ≡ false) × IsNone o
none_since true x o none = absurd (false≢true (sym none))
none_since false x o none = (refl, none)

pub both_none : (one other : Option Excess) → IsNone (first_excess one other) → IsNone one × IsNone other
both_none None other none = (refl, none)
both_none (Some x) other none = absurd (false≢true (sym none))

-- they are no more than the budget
pub few_states : (budget : ℕ) (os : List Offer) (level : Excess) (states : List SystemState) → length states ≤ budget → IsNone (excess_at budget level states os) →
    length (fold placed states (nexts os)) ≤ budget
few_states budget [] level states few none = few
few_states budget (o ∷ os) level states few none =
    let found = none_since (is_over budget (level.states + length (placed states o.next)) (level.edges + 1))
    (record { level = level.level; states = level.states + length (placed states o.next); edges = level.edges + 1 })
    (excess_at budget (record level { edges = level.edges + 1 }) (placed states o.next) os) none in
    let parts = or_parts (nat_lt budget (level.states + length (placed states o.next))) (nat_lt (16 * budget) (level.edges + 1)) found.0 in
    let more : level.states + length (placed states o.next) ≤ budget = ltb-false budget (level.states + length (placed states o.next)) parts.0 in
    few_states budget os (record level { edges = level.edges + 1 }) (placed states o.next) (omega (arith, more)) found.1

-- ---- the states that take offers

place-below : (states : List SystemState) (o : SystemState) → place_of states o < length (placed states o)
place-below [] o = omega arith
place-below (s ∷ states) o = at (states_touch s o) (place-below states o)
  where
    at : (b : Bool) → place_of states o < length (placed states o) →
        cond (not b) (1 + place_of states o) 0 < length (cond b (state_hull s o ∷ states) (s ∷ placed states o))
    at true rest = omega arith
    at false rest = omega (arith, rest)

length-placed : (states : List SystemState) (o : SystemState) → length states ≤ length (placed states o)
length-placed [] o = omega arith
length-placed (s ∷ states) o = at (states_touch s o) (length-placed states o)
  where
    at : (b : Bool) → length states ≤ length (placed states o) → length (s ∷ states) ≤ length (cond b (state_hull s o ∷ states) (s ∷ placed states o))
    at true rest = omega arith
    at false rest = omega (arith, rest)

pub length-fold : (os : List Offer) (states : List SystemState) → length states ≤ length (fold placed states (nexts os))
length-fold [] states = omega arith
length-fold (o ∷ os) states = omega (arith, length-placed states o.next, length-fold os (placed states o.next))

pub targets_below : (os : List Offer) (states : List SystemState) → AllByRecursion (λ (e : Edge). e.to < length (fold placed states (nexts os))) (zip_with edge_to os (places_of states os))
targets_below [] states = tt
targets_below (o ∷ os) states = (
  omega (arith, place-below states o.next, length-fold os (placed states o.next)),
  targets_below os (placed states o.next),
)

-- ---- all levels

-- what there is below a level and in it is within the budget
pub all_within : (budget : ℕ) (os : List Offer) (level : Excess) (states : List SystemState) → level.states + length states ≤ budget → level.edges ≤ 16 * budget →
    IsNone (excess_at budget level states os) → (level.states + length (fold placed states (nexts os)) ≤ budget) × (level.edges + length os ≤ 16 * budget)
all_within budget [] level states few fewer none = (few, omega (arith, fewer))
all_within budget (o ∷ os) level states few fewer none =
    let found = none_since (is_over budget (level.states + length (placed states o.next)) (level.edges + 1))
    (record { level = level.level; states = level.states + length (placed states o.next); edges = level.edges + 1 })
    (excess_at budget (record level { edges = level.edges + 1 }) (placed states o.next) os) none in
    let parts = or_parts (nat_lt budget (level.states + length (placed states o.next))) (nat_lt (16 * budget) (level.edges + 1)) found.0 in
    let more : level.states + length (placed states o.next) ≤ budget = ltb-false budget (level.states + length (placed states o.next)) parts.0 in
    let edges : level.edges + 1 ≤ 16 * budget = ltb-false (16 * budget) (level.edges + 1) parts.1 in
    let rest = all_within budget os (record level { edges = level.edges + 1 }) (placed states o.next) more edges found.1 in
    (rest.0, omega (arith, rest.1))

-- how many states and edges some levels have
abbrev pub state_count : List FoundedLevel → ℕ
state_count [] = 0
state_count (l ∷ ls) = length l.states + state_count ls

abbrev pub edge_count : List FoundedLevel → ℕ
edge_count [] = 0
edge_count (l ∷ ls) = length l.edges + edge_count ls

pub length-edges : (os : List Offer) (states : List SystemState) → length (zip_with edge_to os (places_of states os)) ≡ length os
length-edges [] states = refl
length-edges (o ∷ os) states = ap suc (length-edges os (placed states o.next))

pub levels_within : (table : Table) (budget n : ℕ) (below : Excess) (before : List SystemState) → below.states ≤ budget → below.edges ≤ 16 * budget →
    IsNone (excess_after table budget below n before) →
    (below.states + state_count (levels_after table n before) ≤ budget) × (below.edges + edge_count (levels_after table n before) ≤ 16 * budget)
levels_within table budget zero below before few fewer none = (omega (arith, few), omega (arith, fewer))
levels_within table budget (suc n) below before few fewer none =
    let os = offers table before in
    let next : Excess = record { level = below.level + 1; states = below.states + length (group os); edges = below.edges + length os } in
    let parts = both_none (excess_at budget below [] os) (excess_after table budget next n (group os)) none in
    let one = all_within budget os below [] (omega (arith, few)) fewer parts.0 in
    let rest = levels_within table budget n next (group os) one.0 one.1 parts.1 in
    (omega (arith, rest.0), omega (arith, rest.1, length-edges os []))
