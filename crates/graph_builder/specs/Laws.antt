-- Laws of graphs and builders.
--     IsStateUpTo table m limit state     a state of the table with numbers up to the limit
--     LevelsAreFit                  the states of level k are, up to most_at k
--     WholeGraphIsWithin            at the last level the whole graph is within the budget
use Rattle.std.specs.Prelude.{◌≡◌, ℕ, ◌≤◌, length, None}
use Rattle.std.specs.List.{AllByRecursion}
use Rattle.job_model.specs.Table.{Table, IsTable}
use Rattle.sag_step.specs.State.{SystemState}
use Rattle.sag_step.specs.Shape.{IsState, IsUpTo}
use Rattle.sag_graph.specs.Levels.{level_at}
use Rattle.sag_graph.specs.Budget.{spent}
use Rattle.graph_builder.specs.Fit.{most_at}
use Rattle.graph_builder.specs.Standing.{IsStanding, Standing}

-- a state of the table with numbers up to the limit
pub record IsStateUpTo (table : Table) (m limit : ℕ) (state : SystemState) : Type 0 where
  pub is_state : IsState table m state
  pub in_limit : IsUpTo limit state

-- The states of level k are states of the table, and no number of them is above most_at k.
abbrev pub LevelsAreFit : Type 0
LevelsAreFit = (table : Table) (m k : ℕ) → IsTable table → 1 ≤ m → AllByRecursion (IsStateUpTo table m (most_at k)) (level_at table m k).states

-- A builder that stands at the last level has the whole graph behind it: no offer is over the budget.
abbrev pub WholeGraphIsWithin : Type 0
WholeGraphIsWithin = (s : Standing) → IsStanding s → s.level ≡ length s.table.jobs → spent s.table s.cores s.budget ≡ None
