-- When a table is not taken, and when an edit is refused.
--     IsSpending first level states edges     the first offer over the budget leads to this level, and these are the totals with it
--     IsOverBudget table m budget fault    why a walk through the graph of the table stops
--     IsUntaken first fault                why a table is not taken, where this offer is the first over the budget, if there is one
--     refusal_of fault                     how an edit is refused that the walk does not pass
--     IsRefusedEdit b e fault              why an edit is refused
use Rattle.std.specs.Prelude.{ℕ, ◌≡◌, Option, Some, ⊤}
use Rattle.job_model.specs.Table.{Table}
use Rattle.job_model.specs.Times.{MayCost}
use Rattle.sag_graph.specs.Budget.{Spending, spent}
use Rattle.graph_builder.specs.declared.fault.LevelFault.{LevelFault}
use Rattle.graph_builder.specs.declared.fault.LevelFault.TheVariants as walk
use Rattle.side_csv.specs.declared.edits.JobEdit.{JobEdit}
use Rattle.what_if.specs.declared.fault.WhatIfFault.{WhatIfFault}
use Rattle.what_if.specs.declared.fault.WhatIfFault.TheVariants as taking
use Rattle.what_if.specs.declared.fault.EditFault.{EditFault}
use Rattle.what_if.specs.declared.fault.EditFault.TheVariants as editing
use Rattle.what_if.specs.Bounded.{BoundedTable}
use Rattle.what_if.specs.Edits.{with_edit}

-- that offer is the first over the budget: it leads to this level, and with it there are so many states and edges
abbrev pub IsSpending : Option Spending → ℕ → ℕ → ℕ → Type 0
IsSpending first level states edges = first ≡ Some (record { level = level; states = states; edges = edges })

-- why a walk through the graph of the table stops
abbrev pub IsOverBudget : Table → ℕ → ℕ → LevelFault → Type 0
IsOverBudget table m budget (walk.Spent level states edges) = IsSpending (spent table m budget) level states edges
IsOverBudget table m budget walk.Memory = ⊤

-- why a table is not taken, or not with its edits, where this is the first offer over the budget, if there is one
abbrev pub IsUntaken : Option Spending → WhatIfFault → Type 0
IsUntaken first (taking.Spent level states edges) = IsSpending first level states edges
IsUntaken first taking.Memory = ⊤

-- how an edit is refused that the walk does not pass
abbrev pub refusal_of : LevelFault → EditFault
refusal_of (walk.Spent level states edges) = editing.Spent level states edges
refusal_of walk.Memory = editing.Memory

-- Why an edit is refused: no job may have its costs, which comes first; or the graph of the edited table exceeds the budget.
abbrev pub IsRefusedEdit : BoundedTable → JobEdit → EditFault → Type 0
IsRefusedEdit b e editing.Cost = ¬ MayCost e.cmin e.cmax
IsRefusedEdit b e (editing.Spent level states edges) = MayCost e.cmin e.cmax × IsSpending (spent (with_edit b.table e) b.cores b.budget) level states edges
IsRefusedEdit b e editing.Memory = MayCost e.cmin e.cmax
