-- Tables within a budget.
--     BoundedTable        a table, the number of cores and a budget of states
--     IsWithinBudget b    no offer of the table's graph exceeds the budget
--     bounded_anew b table    another table, on as many cores and within the same budget
use Rattle.std.specs.Prelude.{ℕ, ◌≡◌, ◌≤◌, None}
use Rattle.job_model.specs.declared.limits.TheConstants.{MOST_CORES}
use Rattle.job_model.specs.Table.{Table}
use Rattle.sag_graph.specs.declared.TheConstants.{MOST_BUDGET}
use Rattle.sag_graph.specs.Budget.{spent}

-- a table, the number of cores and a budget of states
pub record BoundedTable : Type 0 where
  pub table : Table
  pub cores : ℕ
  pub budget : ℕ

-- The cores and the budget are in their ranges, and no offer of the table's graph exceeds the budget.
pub record IsWithinBudget (b : BoundedTable) : Type 0 where
  pub some_core : 1 ≤ b.cores
  pub few_cores : b.cores ≤ MOST_CORES
  pub some_budget : 1 ≤ b.budget
  pub small_budget : b.budget ≤ MOST_BUDGET
  pub within : spent b.table b.cores b.budget ≡ None

-- another table, on as many cores and within the same budget
abbrev pub bounded_anew : BoundedTable → Table → BoundedTable
bounded_anew b table = record b { table = table }
