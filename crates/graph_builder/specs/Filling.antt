-- A level as its offers are placed one after another.
--     offer_by table from s w           the offer of state number `from` by a job in its window
--     offers_from table level i         the offers of the states from number i on
--     with_offer level o                the level once the offer is placed
--     completed level offers            the level once these offers are placed
--     no_level                          no states and no edges
--     before_of purse                   what the levels up to that of the purse take
--     totals before level               what there is in all
--     first_over budget before level offers       the first of the offers after which there is too much
--     level_of draft                    the states and edges of a draft
--     IsDraft table m limit draft       what is kept of it
--     FitsBudget purse level            there is no more than the budget allows
--     IsOverWith purse level fault      there is more, and the fault tells how much
--     IsOver over fault                 the fault tells where the budget is spent
use Rattle.std.specs.Prelude.{◌≡◌, ℕ, true, ◌+◌, ◌*◌, ◌≤◌, List, [], ◌∷◌, ◌++◌, fold, length, map, find, Option, Some}
use Rattle.job_model.specs.Table.{Table}
use Rattle.sag_step.specs.Group.{Offer, placed, place_of}
use Rattle.sag_graph.specs.Levels.{Level, edge_to, edges_into}
use Rattle.sag_graph.specs.Budget.{Spending, exceeds, spendings_into}
use Rattle.sag_graph.specs.declared.TheConstants.{MOST_BUDGET}
use Rattle.graph_builder.specs.declared.draft.Draft.{Draft}
use Rattle.graph_builder.specs.declared.filling.Purse.{Purse}
use Rattle.graph_builder.specs.declared.fault.LevelFault.{LevelFault}
use Rattle.graph_builder.specs.declared.fault.LevelFault.TheVariants as fault
use Rattle.graph_builder.specs.Fit.{AreReady, AreEdges}

-- The offer is placed, and its edge leads to the state that took it.
unfoldable pub with_offer : Level → Offer → Level
with_offer level o = record { states = placed level.states o.next; edges = level.edges ++ edge_to o (place_of level.states o.next) ∷ [] }

-- the level once these offers are placed
unfoldable pub completed : Level → List Offer → Level
completed level offers = record { states = fold placed level.states (map (λ o. o.next) offers); edges = level.edges ++ edges_into level.states offers }

-- no states and no edges
abbrev pub no_level : Level
no_level = record { states = []; edges = [] }

-- what the levels up to that of the purse take, before the first offer of that level is placed
abbrev pub before_of : Purse → Spending
before_of purse = record { level = purse.level + 1; states = purse.states; edges = purse.edges }

-- what there is in all
abbrev pub totals : Spending → Level → Spending
totals before level = record { level = before.level; states = before.states + length level.states; edges = before.edges + length level.edges }

-- the first of the offers after which there is too much, where `before` are the totals of the levels before this one
unfoldable pub first_over : ℕ → Spending → Level → List Offer → Option Spending
first_over budget before level offers =
    find (exceeds budget) (spendings_into (record { level = before.level; states = before.states; edges = before.edges + length level.edges }) level.states offers)

-- the states and edges of a draft
abbrev pub level_of : Draft → Level
level_of draft = record { states = draft.index; edges = draft.edges.items }

-- what is kept of a draft
pub record IsDraft (table : Table) (m limit : ℕ) (draft : Draft) : Type 0 where
  pub ready : AreReady table m limit draft.index draft.fronts.items
  pub edges : AreEdges table limit draft.edges.items

-- With the level so far there is no more than the budget allows.
pub record FitsBudget (purse : Purse) (level : Level) : Type 0 where
  pub small : purse.budget ≤ MOST_BUDGET
  pub states : purse.states + length level.states ≤ purse.budget
  pub edges : purse.edges + length level.edges ≤ 16 * purse.budget

-- With this level there is more than the budget allows, and the fault tells how much, if it tells that.
abbrev pub IsOverWith : Purse → Level → LevelFault → Type 0
IsOverWith purse level (fault.Spent k states edges) =
    (totals (before_of purse) level ≡ record { level = k; states = states; edges = edges }) × (exceeds purse.budget (totals (before_of purse) level) ≡ true)
IsOverWith purse level fault.Memory = Unit {0}

-- the totals that a fault tells, if it tells any
abbrev pub IsOver : Option Spending → LevelFault → Type 0
IsOver over (fault.Spent level states edges) = over ≡ Some (record { level = level; states = states; edges = edges })
IsOver over fault.Memory = Unit {0}
