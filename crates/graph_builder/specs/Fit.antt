-- What is kept of the states and edges of a level in memory.
--     most_at k                            no number of a state of level k is above this
--     IsReady table m limit state front    a state of the table up to the limit, with a front of its set
--     AreReady table m limit states fronts each of the states is, with its front
--     IsEdge table limit e                 a job of the table, and a window in order that ends its cost before the limit
--     AreEdges table limit edges           each of the edges is one
--     IsScratch table m held               a state with room for the end of each job
use Rattle.std.specs.Prelude.{◌≡◌, ℕ, ◌+◌, ◌*◌, ◌<◌, ◌≤◌, List, length}
use Rattle.std.specs.List.{AllByRecursion, AllZip}
use Rattle.job_model.specs.declared.limits.TheConstants.{MOST_ARRIVAL, MOST_COST}
use Rattle.job_model.specs.Table.{Table, job_at}
use Rattle.start_windows.specs.Eligible.{IsFront}
use Rattle.sag_step.specs.State.{SystemState, HeldState}
use Rattle.sag_step.specs.Shape.{IsState, IsUpTo}
use Rattle.sag_graph.specs.declared.edge.Edge.{Edge}

-- No number of a state of level k is above this: a job adds its cost at most.
abbrev pub most_at : ℕ → ℕ
most_at k = MOST_ARRIVAL + k * MOST_COST

-- a state up to the limit, and a place in the order of release before which all jobs are dispatched there
pub record IsReady (table : Table) (m limit : ℕ) (state : SystemState) (front : ℕ) : Type 0 where
  pub is_state : IsState table m state
  pub in_limit : IsUpTo limit state
  pub is_front : IsFront table state.set.members front

-- each of the states, with its front
pub record AreReady (table : Table) (m limit : ℕ) (states : List SystemState) (fronts : List ℕ) : Type 0 where
  pub each : AllZip (IsReady table m limit) states fronts

-- the edge of a job that finishes by the limit
pub record IsEdge (table : Table) (limit : ℕ) (e : Edge) : Type 0 where
  pub is_job : e.job < length table.jobs
  pub in_order : e.window.est ≤ e.window.lst
  pub latest : e.window.lst + (job_at table e.job).cmax ≤ limit

-- each of the edges is one
pub record AreEdges (table : Table) (limit : ℕ) (edges : List Edge) : Type 0 where
  pub each : AllByRecursion (IsEdge table limit) edges

-- a state with room for the end of each job
pub record IsScratch (table : Table) (m : ℕ) (held : HeldState) : Type 0 where
  pub is_state : IsState table m held.state
  pub room : held.room ≡ length table.jobs
