-- A builder of levels.
--     Standing                  what contracts see of it
--     builder_at table m budget k   at level k of the graph of the table
--     purse_of s                the budget, and what the levels so far take
--     IsStanding s              it stands at a level of the graph, and the budget was not exceeded so far
--     IsSpentAfter s fault      the budget is spent at an offer that leads to the next level
use Rattle.std.specs.Prelude.{◌≡◌, ℕ, ◌+◌, ◌*◌, ◌<◌, ◌≤◌, List, length, find, Option, None, Some}
use Rattle.job_model.specs.declared.limits.TheConstants.{MOST_CORES}
use Rattle.job_model.specs.Table.{Table, IsTable}
use Rattle.sag_time.specs.Interval.{Interval}
use Rattle.sag_step.specs.State.{SystemState}
use Rattle.sag_graph.specs.declared.edge.Edge.{Edge}
use Rattle.sag_graph.specs.Levels.{level_at}
use Rattle.sag_graph.specs.Spans.{spans_up_to}
use Rattle.sag_graph.specs.Budget.{exceeds, spendings_at, spent, state_total, edge_total}
use Rattle.graph_builder.specs.declared.filling.Purse.{Purse}
use Rattle.graph_builder.specs.declared.fault.LevelFault.{LevelFault}
use Rattle.graph_builder.specs.declared.fault.LevelFault.TheVariants as fault

-- the table, the cores and the budget; the level, its states and the edges into it; the span of each job by the edges so
-- far, if it has one; and how many states and edges there are so far
pub record Standing : Type 0 where
  pub table : Table
  pub cores : ℕ
  pub budget : ℕ
  pub level : ℕ
  pub states : List SystemState
  pub edges : List Edge
  pub spans : List (Option Interval)
  pub state_total : ℕ
  pub edge_total : ℕ

-- at level k of the graph of the table
abbrev pub builder_at : Table → ℕ → ℕ → ℕ → Standing
builder_at table m budget k = record {
  table = table;
  cores = m;
  budget = budget;
  level = k;
  states = (level_at table m k).states;
  edges = (level_at table m k).edges;
  spans = spans_up_to table m k;
  state_total = state_total table m k;
  edge_total = edge_total table m k;
}

-- what is left to spend on the next level
abbrev pub purse_of : Standing → Purse
purse_of s = record { budget = s.budget; level = s.level; states = s.state_total; edges = s.edge_total }

-- It stands at a level of the graph, and no offer up to it is over the budget.
pub record IsStanding (s : Standing) : Type 0 where
  pub is_table : IsTable s.table
  pub some_core : 1 ≤ s.cores
  pub few_cores : s.cores ≤ MOST_CORES
  pub is_level : s.level ≤ length s.table.jobs
  pub of_graph : s ≡ builder_at s.table s.cores s.budget s.level
  pub few_states : s.state_total ≤ s.budget
  pub few_edges : s.edge_total ≤ 16 * s.budget
  pub within : (k : ℕ) → k < s.level → find (exceeds s.budget) (spendings_at s.table s.cores k) ≡ None

-- An offer that leads to the next level is the first of all that is over the budget, and the fault tells the level and the totals
-- with it. Want of memory may come at any level.
abbrev pub IsSpentAfter : Standing → LevelFault → Type 0
IsSpentAfter s (fault.Spent k states edges) =
    (k ≡ s.level + 1) × (spent s.table s.cores s.budget ≡ Some (record { level = k; states = states; edges = edges }))
IsSpentAfter s fault.Memory = Unit {0}
