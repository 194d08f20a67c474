-- Laws of edits of one job's costs and deadline.
--     TimesAreEdit          such a change of a job is an edit of it
--     WindowsStay           an edit changes no window, of whatever job in whatever state
--     NextStays             nor the next state by another job
--     StatesStay            the states without the edited job are the same, in the same order of each level
--     EdgesStay             so are the edges by other jobs out of these states
--     OrderGivesStates      what stands at the places of an order is the level
--     LinksAreEdges         the edges into the next level, by the states that they leave
--     LevelIsRemade         a level that is made anew is the next level of the edited table
--     ReworkIsCounted       the edges that are made anew, counted by the states that they leave
--     StepsAreCounted       each of them costs one step, and no other edge costs one
--     StartStays            levels into which no edge of the edited job leads stay whole, with their edges
--     EdgesTellTotals       the edges of a level tell the totals of states and edges after each offer
use Rattle.std.specs.Prelude.{◌≡◌, ◌≢◌, ℕ, suc, ◌<◌, ◌==◌, List, [], length, not, filter, fold, map, IsTrue}
use Rattle.std.specs.List.{list_all, sum_by}
use Rattle.job_model.specs.Table.{Table}
use Rattle.job_model.specs.Times.{with_times}
use Rattle.start_windows.specs.declared.StartWindow.{StartWindow}
use Rattle.sag_step.specs.State.{SystemState, state_window}
use Rattle.sag_step.specs.Next.{next}
use Rattle.sag_step.specs.Offers.{offers}
use Rattle.sag_graph.specs.Budget.{Spending, spendings_into}
use Rattle.sag_graph.specs.Levels.{level_at, next_level}
use Rattle.graph_rework.specs.Edit.{IsEdit, stays}
use Rattle.graph_rework.specs.Order.{order_from, ranks_from}
use Rattle.graph_rework.specs.Links.{links_out, edges_from}
use Rattle.graph_rework.specs.Rework.{grown}
use Rattle.graph_rework.specs.Remake.{after_place, occupant_state, selected, steps_at}
use Rattle.graph_rework.specs.Bound.{links_reworked, edges_reworked, staying_edges}
use Rattle.graph_rework.specs.Spend.{totals_by}

-- The costs and the deadline of a job given anew are an edit of it.
abbrev pub TimesAreEdit : Type 0
TimesAreEdit = (table : Table) (e cmin cmax deadline : ℕ) → e < length table.jobs → IsEdit e table (with_times table e cmin cmax deadline)

-- No window changes, of whatever job in whatever state.
abbrev pub WindowsStay : Type 0
WindowsStay = (e : ℕ) (before after : Table) → IsEdit e before after → (state : SystemState) (j : ℕ) → state_window after state j ≡ state_window before state j

-- The next state by another job does not change.
abbrev pub NextStays : Type 0
NextStays =
    (e : ℕ) (before after : Table) → IsEdit e before after → (state : SystemState) (j : ℕ) (window : StartWindow) → j ≢ e →
    next after state j window ≡ next before state j window

-- Of each level, the states without the edited job are the same, in the same order.
abbrev pub StatesStay : Type 0
StatesStay =
    (e : ℕ) (before after : Table) → IsEdit e before after → (m k : ℕ) →
    filter (stays e) (level_at after m k).states ≡ filter (stays e) (level_at before m k).states

-- The edges by other jobs out of these states are the same, in the same order: each leaves a state of the same rank, in the same
-- window, and leads to one of the same rank.
abbrev pub EdgesStay : Type 0
EdgesStay =
    (e : ℕ) (before after : Table) → IsEdit e before after → (m k : ℕ) →
    staying_edges e (level_at after m k).states (level_at after m (suc k)) ≡ staying_edges e (level_at before m k).states (level_at before m (suc k))

-- What stands at the places of the order of a level, one after another, is the level.
abbrev pub OrderGivesStates : Type 0
OrderGivesStates =
    (e : ℕ) (states : List SystemState) →
    map (occupant_state (filter (stays e) states) (filter (λ s. not (stays e s)) states)) (order_from (stays e) 0 0 states) ≡ states

-- The edges into the next level, by the states that they leave.
abbrev pub LinksAreEdges : Type 0
LinksAreEdges = (table : Table) (states : List SystemState) → (next_level table states).edges ≡ edges_from (links_out table [] states)

-- Let the states that stay of a level be the same before the edit and after it. Then what is made anew of it, place by place, is
-- the next level of the edited table: its states in their order, and its edges.
abbrev pub LevelIsRemade : Type 0
LevelIsRemade =
    (e : ℕ) (before after : Table) → IsEdit e before after → (old new : List SystemState) → filter (stays e) new ≡ filter (stays e) old →
    fold
    (after_place after e (filter (stays e) old) (selected (stays e) old (links_out before [] old)) (ranks_from (stays e) 0 (next_level before old).states)
    (filter (λ s. not (stays e s)) new))
    (record { next = grown e []; links = [] }) (order_from (stays e) 0 0 new)
    ≡ record { next = grown e (next_level after new).states; links = links_out after [] new }

-- The edges that are made anew, counted one by one and by the states that they leave.
abbrev pub ReworkIsCounted : Type 0
ReworkIsCounted =
    (e : ℕ) (table : Table) (states : List SystemState) →
    edges_reworked e states (next_level table states).edges ≡ links_reworked e states (links_out table [] states)

-- As many steps are made as edges of the edited table start job e or leave a state that has it.
abbrev pub StepsAreCounted : Type 0
StepsAreCounted =
    (e : ℕ) (before after : Table) → IsEdit e before after → (old new : List SystemState) → filter (stays e) new ≡ filter (stays e) old →
    sum_by (steps_at after e (selected (stays e) old (links_out before [] old)) (filter (λ s. not (stays e s)) new)) (order_from (stays e) 0 0 new)
    ≡ edges_reworked e new (next_level after new).edges

-- Where no edge into the first k levels starts job e, these levels are the same, states and edges.
abbrev pub StartStays : Type 0
StartStays =
    (e : ℕ) (before after : Table) → IsEdit e before after → (m k : ℕ) →
    ((j : ℕ) → j < k → IsTrue (list_all (list_all (λ l. not (l.job == e))) (links_out before [] (level_at before m j).states))) →
    level_at after m k ≡ level_at before m k

-- The totals after each offer of a level, by its edges alone.
abbrev pub EdgesTellTotals : Type 0
EdgesTellTotals =
    (table : Table) (before : Spending) (states : List SystemState) →
    totals_by before 0 (next_level table states).edges ≡ spendings_into before [] (offers table states)
