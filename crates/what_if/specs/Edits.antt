-- Edits of costs and deadlines.
--     with_edit table e                the table once the edit is made
--     with_edits table edits           once all are made, one after another
--     tables_of table edits            the table before the first of them, and after each
--     first_spent tables m budget      the first offer over the budget, in the graphs of these tables in turn, if there is one
use Rattle.std.specs.Prelude.{ℕ, List, [], ◌∷◌, Option, None}
use Rattle.std.specs.Option.{option_or}
use Rattle.job_model.specs.Table.{Table}
use Rattle.job_model.specs.Times.{with_times}
use Rattle.sag_graph.specs.Budget.{Spending, spent}
use Rattle.side_csv.specs.declared.edits.JobEdit.{JobEdit}

-- the table once the edit is made
abbrev pub with_edit : Table → JobEdit → Table
with_edit table e = with_times table e.job e.cmin e.cmax e.deadline

-- the table once all of the edits are made, one after another
abbrev pub with_edits : Table → List JobEdit → Table
with_edits table [] = table
with_edits table (e ∷ edits) = with_edits (with_edit table e) edits

-- the table before the first of the edits, and after each of them
abbrev pub tables_of : Table → List JobEdit → List Table
tables_of table [] = table ∷ []
tables_of table (e ∷ edits) = table ∷ tables_of (with_edit table e) edits

-- the first offer over the budget, in the graphs of these tables in turn, if there is one
abbrev pub first_spent : List Table → ℕ → ℕ → Option Spending
first_spent [] m budget = None
first_spent (table ∷ tables) m budget = option_or (spent table m budget) (first_spent tables m budget)
