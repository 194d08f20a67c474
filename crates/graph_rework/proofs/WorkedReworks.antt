-- Edits of small tables, computed from the definitions.
use Rattle.std.proofs.Common.{◌≡◌, ℕ, List, [], ◌∷◌, filter, not, refl}
use Rattle.std.specs.List.{fold, sum_by}
use Rattle.job_model.specs.Table.{Table}
use Rattle.job_model.specs.Times.{with_times}
use Rattle.job_model.proofs.Tables.{job, table_a}
use Rattle.sag_step.specs.State.{SystemState}
use Rattle.sag_graph.specs.Budget.{edge_total, spending_before, state_total}
use Rattle.sag_graph.specs.Levels.{level_at, next_level}
use Rattle.graph_rework.specs.declared.link.Link.{Link}
use Rattle.graph_rework.specs.declared.occupant.Occupant.TheVariants.{Stayed, Remade}
use Rattle.graph_rework.specs.Edit.{stays}
use Rattle.graph_rework.specs.Order.{order_from, ranks_from}
use Rattle.graph_rework.specs.Links.{links_out}
use Rattle.graph_rework.specs.Rework.{grown}
use Rattle.graph_rework.specs.Remake.{after_place, selected, steps_at}
use Rattle.graph_rework.specs.Bound.{edges_reworked, staying_edges}
use Rattle.graph_rework.specs.Spend.{totals_by}

-- ---- one core, two jobs, the first of which costs 2 to 3 in place of 1 to 2

abbrev dearer_a : Table
dearer_a = with_times table_a 0 2 3 5

-- one of the two states of level 1 stays
a_stays : filter (stays 0) (level_at dearer_a 1 1).states ≡ record { set = record { size = 2; members = 1 ∷ [] }; low = 2 ∷ []; high = 3 ∷ []; ends = []; last = record { size = 2; members = [] } } ∷ []
unfolding level_at next_level
a_stays = refl

-- from the root the edge by job 0 is made anew, and from level 1 both edges
a_first : edges_reworked 0 (level_at dearer_a 1 0).states (level_at dearer_a 1 1).edges ≡ 1
unfolding level_at next_level
a_first = refl

a_second : edges_reworked 0 (level_at dearer_a 1 1).states (level_at dearer_a 1 2).edges ≡ 2
unfolding level_at next_level
a_second = refl

-- the totals of level 2 by its edges
a_totals : totals_by (spending_before dearer_a 1 1) 0 (level_at dearer_a 1 2).edges ≡ record { level = 2; states = 4; edges = 3 } ∷ record { level = 2; states = 4; edges = 4 } ∷ []
unfolding level_at next_level state_total edge_total
a_totals = refl

-- ---- one core: a state that an edit adds moves the number of one that stays

-- Job 1 is released at 5. Where job 0 costs 1, it cannot be the second to start after job 0.
abbrev shifting : Table
shifting = record {
  jobs = job 1 1 0 10 1 1 30 1 ∷ job 2 1 5 5 1 1 30 2 ∷ job 3 1 0 0 1 1 30 3 ∷ [];
  edges = [];
}

-- where it costs 5, it can
abbrev shifted : Table
shifted = with_times shifting 0 5 5 30

abbrev old_states : List SystemState
old_states = (level_at shifting 1 1).states

abbrev new_states : List SystemState
new_states = (level_at shifted 1 1).states

abbrev link : ℕ → ℕ → ℕ → ℕ → Link
link j est lst to = record { job = j; window = record { est = est; lst = lst }; to = to }

abbrev state_of : ℕ → ℕ → ℕ → ℕ → SystemState
state_of i j lo hi = record { set = record { size = 3; members = i ∷ j ∷ [] }; low = lo ∷ []; high = hi ∷ []; ends = []; last = record { size = 3; members = [] } }

shifting_links : links_out shifting [] old_states ≡ (link 2 1 1 0 ∷ []) ∷ (link 0 1 5 0 ∷ link 1 5 5 1 ∷ []) ∷ []
unfolding level_at next_level
shifting_links = refl

shifting_order : order_from (stays 0) 0 0 (next_level shifting old_states).states ≡ Remade 0 ∷ Stayed 0 ∷ []
unfolding level_at next_level
shifting_order = refl

-- Of the state that stays the edge by job 1 is looked up: it leads to the one that stays, which has number 2 now.
shifted_level : fold
    (after_place shifted 0 (filter (stays 0) old_states) (selected (stays 0) old_states (links_out shifting [] old_states)) (ranks_from (stays 0) 0 (next_level shifting old_states).states)
    (filter (λ s. not (stays 0 s)) new_states))
    (record { next = grown 0 []; links = [] }) (order_from (stays 0) 0 0 new_states)
    ≡ record {
      next = record { made = state_of 0 1 6 6 ∷ state_of 0 2 6 10 ∷ []; order = Remade 0 ∷ Remade 1 ∷ Stayed 0 ∷ [] };
      links = (link 1 5 5 0 ∷ []) ∷ (link 0 1 5 1 ∷ link 1 5 5 2 ∷ []) ∷ [];
    }
unfolding level_at next_level
shifted_level = refl

-- two steps for the three edges
shifted_steps : sum_by (steps_at shifted 0 (selected (stays 0) old_states (links_out shifting [] old_states)) (filter (λ s. not (stays 0 s)) new_states)) (order_from (stays 0) 0 0 new_states) ≡ 2
unfolding level_at next_level
shifted_steps = refl

shifted_rework : edges_reworked 0 new_states (next_level shifted new_states).edges ≡ 2
unfolding level_at next_level
shifted_rework = refl

-- the edge that stays leads from one state that stays to the other
shifting_stays : staying_edges 0 old_states (next_level shifting old_states) ≡ record { from = 0; job = 1; window = record { est = 5; lst = 5 }; to = 0 } ∷ []
unfolding level_at next_level
shifting_stays = refl

shifted_stays : staying_edges 0 new_states (next_level shifted new_states) ≡ record { from = 0; job = 1; window = record { est = 5; lst = 5 }; to = 0 } ∷ []
unfolding level_at next_level
shifted_stays = refl
