-- When a graph exceeds a budget of states.
--     Spending                        the level that an offer leads to, and how many states and edges there are with it
--     exceeds budget s                more states than the budget, or more than sixteen edges for each state of it
--     spendings_into before states offers     the totals after each offer, which are placed beside these states of a level
--     state_total, edge_total         how many states and edges there are up to level k
--     spendings_at table m k          the totals after each offer of level k
--     spent table m budget            the first of all offers that is over the budget, if there is one
use Rattle.std.specs.Prelude.{ℕ, zero, suc, Bool, List, [], ◌∷◌, ◌+◌, ◌*◌, ◌||◌, nat_lt, length, flat_map, find, Option}
use Rattle.lists.specs.Numbers.{numbers_below}
use Rattle.job_model.specs.Table.{Table}
use Rattle.sag_step.specs.State.{SystemState}
use Rattle.sag_step.specs.Offers.{Offer, offers}
use Rattle.sag_step.specs.Group.{placed}
use Rattle.sag_graph.specs.Levels.{level_at}

-- the level that an offer leads to, and how many states and edges there are with it
pub record Spending : Type 0 where
  pub level : ℕ
  pub states : ℕ
  pub edges : ℕ

-- A state takes one of the budget, and there may be sixteen edges for each.
abbrev pub exceeds : ℕ → Spending → Bool
exceeds budget s = nat_lt budget s.states || nat_lt (16 * budget) s.edges

-- The totals after each of the offers of a level, of which the states so far are these. `before` are the totals without
-- the states of this level, and with the edges so far.
abbrev pub spendings_into : Spending → List SystemState → List Offer → List Spending
spendings_into before states [] = []
spendings_into before states (o ∷ offers) =
    record { level = before.level; states = before.states + length (placed states o.next); edges = before.edges + 1 }
    ∷ spendings_into (record { level = before.level; states = before.states; edges = before.edges + 1 }) (placed states o.next) offers

-- how many states the levels up to k have
unfoldable pub state_total : Table → ℕ → ℕ → ℕ
state_total table m zero = length (level_at table m zero).states
state_total table m (suc k) = state_total table m k + length (level_at table m (suc k)).states

-- how many edges lead into them
unfoldable pub edge_total : Table → ℕ → ℕ → ℕ
edge_total table m zero = length (level_at table m zero).edges
edge_total table m (suc k) = edge_total table m k + length (level_at table m (suc k)).edges

-- what the levels up to k take, before the first offer of level k is placed
abbrev pub spending_before : Table → ℕ → ℕ → Spending
spending_before table m k = record { level = k + 1; states = state_total table m k; edges = edge_total table m k }

-- the totals after each offer of level k, which leads to level k + 1
unfoldable pub spendings_at : Table → ℕ → ℕ → List Spending
spendings_at table m k = spendings_into (spending_before table m k) [] (offers table (level_at table m k).states)

-- The offers of all levels are taken in order. The first after which there is too much, if there is one, is where the
-- budget is spent.
unfoldable pub spent : Table → ℕ → ℕ → Option Spending
spent table m budget = find (exceeds budget) (flat_map (spendings_at table m) (numbers_below (length table.jobs)))
