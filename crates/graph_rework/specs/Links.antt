-- The edges of a level by the states that they leave.
--     windows_of table state               each job that may be the next to start in the state, with its window
--     offered table state windows          the next states by these windows
--     links_of table state taken windows   the edges by these windows, where the states of the next level so far are `taken`
--     taken_after table taken state        the states of the next level once those of this state are placed too
--     links_out table taken states         the edges out of each of the states, in their order
--     edges_from links                     all of these, each with the number of the state that it leaves
use Rattle.std.specs.Prelude.{ℕ, List, [], ◌∷◌, map, flat_map, fold}
use Rattle.std.specs.List.{enumerate_from}
use Rattle.job_model.specs.Table.{Table}
use Rattle.start_windows.specs.declared.StartWindow.{StartWindow}
use Rattle.start_windows.specs.Eligible.{eligible_windows}
use Rattle.sag_step.specs.State.{SystemState, first_core}
use Rattle.sag_step.specs.Next.{next}
use Rattle.sag_step.specs.Group.{placed, place_of}
use Rattle.sag_graph.specs.declared.edge.Edge.{Edge}
use Rattle.graph_rework.specs.declared.link.Link.{Link}

-- each job that may be the next to start in the state, with its window, by rising number
abbrev pub windows_of : Table → SystemState → List (ℕ × StartWindow)
windows_of table state = eligible_windows table state.set.members state.ends (first_core state)

-- the next states by these windows
abbrev pub offered : Table → SystemState → List (ℕ × StartWindow) → List SystemState
offered table state windows = map (λ w. next table state w.0 w.1) windows

-- the edges by these windows, where the states of the next level so far are `taken`
abbrev pub links_of : Table → SystemState → List SystemState → List (ℕ × StartWindow) → List Link
links_of table state taken [] = []
links_of table state taken (w ∷ windows) =
    record { job = w.0; window = w.1; to = place_of taken (next table state w.0 w.1) }
    ∷ links_of table state (placed taken (next table state w.0 w.1)) windows

-- the states of the next level once the offers of this state are placed too
abbrev pub taken_after : Table → List SystemState → SystemState → List SystemState
taken_after table taken state = fold placed taken (offered table state (windows_of table state))

-- the edges out of each of the states, in their order
abbrev pub links_out : Table → List SystemState → List SystemState → List (List Link)
links_out table taken [] = []
links_out table taken (s ∷ states) = links_of table s taken (windows_of table s) ∷ links_out table (taken_after table taken s) states

-- the edge that leaves the state of that number
abbrev pub edge_from : ℕ → Link → Edge
edge_from from link = record { from = from; job = link.job; window = link.window; to = link.to }

-- all of these, each with the number of the state that it leaves
abbrev pub edges_from : List (List Link) → List Edge
edges_from links = flat_map (λ l. map (edge_from l.0) l.1) (enumerate_from 0 links)
