-- What building a whole graph comes to.
--     HasBuilt table m builder levels         the builder stands at the last of these levels of the table's graph
--     IsSpentBuild table m budget answer      the budget is spent, and the answer tells where, with the levels below
use Rattle.std.specs.Prelude.{◌≡◌, ℕ, suc, ◌≤◌, List, Some}
use Rattle.job_model.specs.Table.{Table}
use Rattle.sag_graph.specs.declared.TheConstants.{MOST_BUDGET}
use Rattle.sag_graph.specs.Levels.{Level}
use Rattle.sag_graph.specs.Graph.{graph_up_to, levels_up_to}
use Rattle.sag_graph.specs.Budget.{spent}
use Rattle.graph_builder.specs.Standing.{Standing, builder_at}
use Rattle.graph_memory.specs.declared.building.BuildAnswer.{BuildAnswer}
use Rattle.graph_memory.specs.declared.building.BuildAnswer.TheVariants as answer

-- The builder stands at a level of the table's graph, and these are the levels up to that one.
pub record HasBuilt (table : Table) (m : ℕ) (builder : Standing) (levels : List Level) : Type 0 where
  pub stands : builder ≡ builder_at table m builder.budget builder.level
  pub kept : levels ≡ levels_up_to table m builder.level
  pub few : builder.budget ≤ MOST_BUDGET

-- The offer that spends the budget leads to level k + 1, and the graph has the levels up to k.
abbrev pub IsSpentBuild : Table → ℕ → ℕ → BuildAnswer → Type 0
IsSpentBuild table m budget (answer.Spent graph level states edges) =
    (spent table m budget ≡ Some (record { level = level; states = states; edges = edges }))
    × ((k : ℕ) × (level ≡ suc k) × (graph ≡ graph_up_to table m k))
IsSpentBuild table m budget answer.Memory = Unit {0}
