-- Edits made one after another.
--     refused_by           how an edit is refused whose graph the walk does not pass
--     next_left            the edits that are left begin with the next one
--     MadeSome             some of the edits are made
--     none_made, one_more, all_made     none is made yet; one more; all
--     stopped              the graph after the next edit exceeds the budget
use Rattle.std.proofs.Common.{◌≡◌, ◌∙◌, ◌+◌, ◌<◌, ℕ, List, [], ◌∷◌, None, Some, ap, drop, get_or, length, refl, sym, subst}
use Rattle.std.specs.Option.{option_or}
use Rattle.std.proofs.lemmas.List.{drop_more, length-set}
use Rattle.job_model.specs.Table.{Table}
use Rattle.job_model.specs.Times.{MayCost}
use Rattle.sag_graph.specs.Budget.{Spending, spent}
use Rattle.graph_builder.specs.declared.fault.LevelFault.{LevelFault}
use Rattle.graph_builder.specs.declared.fault.LevelFault.TheVariants as walk
use Rattle.side_csv.specs.declared.edits.JobEdit.{JobEdit}
use Rattle.what_if.specs.Bounded.{BoundedTable, IsWithinBudget, bounded_anew}
use Rattle.what_if.specs.Edits.{first_spent, tables_of, with_edit, with_edits}
use Rattle.what_if.specs.Faults.{IsOverBudget, IsRefusedEdit, refusal_of}

-- how an edit is refused whose graph the walk does not pass
pub refused_by : (b : BoundedTable) (e : JobEdit) (fault : LevelFault) → MayCost e.cmin e.cmax → IsOverBudget (with_edit b.table e) b.cores b.budget fault → IsRefusedEdit b e (refusal_of fault)
refused_by b e (walk.Spent level states edges) costs over = (costs, over)
refused_by b e walk.Memory costs over = costs

-- the edits that are left begin with the next one
pub next_left : (edits : List JobEdit) (i : ℕ) (e : JobEdit) → i < length edits → e ≡ get_or edits i e → drop i edits ≡ e ∷ drop (i + 1) edits
next_left edits i e below is = drop_more edits i e below ∙ ap (λ x. x ∷ drop (i + 1) edits) (sym is)

-- The graph of the first table exceeds the budget.
spent_first : (table : Table) (edits : List JobEdit) (m budget : ℕ) (s : Spending) → spent table m budget ≡ Some s → first_spent (tables_of table edits) m budget ≡ Some s
spent_first table [] m budget s is = ap (λ o. option_or o None) is
spent_first table (e ∷ edits) m budget s is = ap (λ o. option_or o (first_spent (tables_of (with_edit table e) edits) m budget)) is

-- Some of the edits are made: with those that are left the table comes to the same, and the first offer over the budget is that
-- of the tables from here on.
pub record MadeSome (first : BoundedTable) (edits : List JobEdit) (now : BoundedTable) (left : List JobEdit) : Type 0 where
  pub cores : now.cores ≡ first.cores
  pub budget : now.budget ≡ first.budget
  pub count : length now.table.jobs ≡ length first.table.jobs
  pub within : IsWithinBudget now
  pub comes : with_edits now.table left ≡ with_edits first.table edits
  pub spends : first_spent (tables_of now.table left) now.cores now.budget ≡ first_spent (tables_of first.table edits) first.cores first.budget

-- the edits that are left, by another name
pub left_are : {first now : BoundedTable} {edits left others : List JobEdit} → left ≡ others → MadeSome first edits now left → MadeSome first edits now others
left_are {first = first} {now = now} {edits = edits} same some = subst (λ l. MadeSome first edits now l) same some

-- none is made yet
pub none_made : (first : BoundedTable) (edits : List JobEdit) → IsWithinBudget first → MadeSome first edits first edits
none_made first edits within = record { cores = refl; budget = refl; count = refl; within = within; comes = refl; spends = refl }

module _ {first now : BoundedTable} {edits left : List JobEdit} (e : JobEdit) (some : MadeSome first edits now (e ∷ left)) where
  -- the first offer over the budget is that of the tables after the next edit
  spends-later : first_spent (tables_of (with_edit now.table e) left) now.cores now.budget ≡ first_spent (tables_of first.table edits) first.cores first.budget
  spends-later = sym (ap (λ o. option_or o (first_spent (tables_of (with_edit now.table e) left) now.cores now.budget)) some.within.within) ∙ some.spends

  -- one more is made
  pub one_more : (next : BoundedTable) → next ≡ bounded_anew now (with_edit now.table e) → IsWithinBudget next → MadeSome first edits next left
  one_more next is within = record {
    cores = ap (λ (b : BoundedTable). b.cores) is ∙ some.cores;
    budget = ap (λ (b : BoundedTable). b.budget) is ∙ some.budget;
    count = ap (λ (b : BoundedTable). length b.table.jobs) is ∙ length-set now.table.jobs e.job _ ∙ some.count;
    within = within;
    comes = ap (λ (b : BoundedTable). with_edits b.table left) is ∙ some.comes;
    spends = ap (λ (b : BoundedTable). first_spent (tables_of b.table left) b.cores b.budget) is ∙ spends-later;
  }

  -- the graph after the next edit exceeds the budget
  pub stopped : (s : Spending) → spent (with_edit now.table e) now.cores now.budget ≡ Some s → first_spent (tables_of first.table edits) first.cores first.budget ≡ Some s
  stopped s is = sym spends-later ∙ spent_first (with_edit now.table e) left now.cores now.budget s is

module _ {first now : BoundedTable} {edits : List JobEdit} (all : MadeSome first edits now []) where
  -- all are made
  pub all_made : now ≡ bounded_anew first (with_edits first.table edits)
  all_made = λ i. record { table = all.comes i; cores = all.cores i; budget = all.budget i }

  -- and no graph exceeded the budget
  pub none_spent : first_spent (tables_of first.table edits) first.cores first.budget ≡ None
  none_spent = sym all.spends ∙ ap (λ o. option_or o None) all.within.within
