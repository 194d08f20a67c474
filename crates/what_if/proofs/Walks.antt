-- A walk through the levels of a graph.
--     walks_on        one level more
--     walked          behind the last level no offer was over the budget
--     stops           why the walk stops
use Rattle.std.proofs.Common.{◌≡◌, ◌∙◌, ◌+◌, ◌<◌, ℕ, Bool, None, ap, length, sym, subst}
use Rattle.std.specs.Prelude.{◌↔◌, IsTrue, if◌then◌else◌}
use Rattle.job_model.specs.Table.{Table}
use Rattle.sag_graph.specs.Budget.{spent}
use Rattle.graph_builder.specs.declared.fault.LevelFault.{LevelFault}
use Rattle.graph_builder.specs.declared.fault.LevelFault.TheVariants as walk
use Rattle.graph_builder.specs.Laws.{WholeGraphIsWithin}
use Rattle.graph_builder.specs.Standing.{IsSpentAfter, IsStanding, Standing, builder_at}
use Rattle.what_if.specs.Faults.{IsOverBudget}

module _ (table : Table) (m budget k : ℕ) (b : Standing) (at : b ≡ builder_at table m budget k) where
  table-is : b.table ≡ table
  table-is = ap (λ (s : Standing). s.table) at

  level-is : b.level ≡ k
  level-is = ap (λ (s : Standing). s.level) at

  -- what would be spent by the builder is spent by the table
  spent-is : spent b.table b.cores b.budget ≡ spent table m budget
  spent-is = ap (λ (s : Standing). spent s.table s.cores s.budget) at

  -- one level more
  pub walks_on : (went : Bool) (next : Standing) → next ≡ (if went then builder_at b.table b.cores b.budget (b.level + 1) else b) → (IsTrue went ↔ (b.level < length b.table.jobs))
      → k < length table.jobs → next ≡ builder_at table m budget (k + 1)
  walks_on went next up last below =
      let there : b.level < length b.table.jobs = subst (λ (s : Standing). s.level < length s.table.jobs) (sym at) below in
      up ∙ ap (λ (w : Bool). if w then builder_at b.table b.cores b.budget (b.level + 1) else b) (last.1 there)
      ∙ ap (λ (s : Standing). builder_at s.table s.cores s.budget (s.level + 1)) at

  -- behind the last level no offer was over the budget
  pub walked : WholeGraphIsWithin → IsStanding b → k ≡ length table.jobs → spent table m budget ≡ None
  walked whole stands last = sym spent-is ∙ whole b stands (level-is ∙ last ∙ sym (ap (λ (t : Table). length t.jobs) table-is))

  -- why the walk stops
  pub stops : (fault : LevelFault) → IsSpentAfter b fault → IsOverBudget table m budget fault
  stops (walk.Spent level states edges) is = sym spent-is ∙ is.1
  stops walk.Memory is = tt
