-- What an edit of job e makes anew of a level, offer by offer.
--     Growing                        the next level so far: the states that were made, and the order with those that stay
--     grown e states                 these of the states so far
--     with_remade, place_of_remade   the level with an offer that has job e, and its number
--     with_stayed, place_of_stayed   the level with a state that stays, by its rank, and its number
--     Reworked                       the level so far, and the edges out of one state so far
--     after_step                     these once a job has started, by a step
--     after_link                     these once an edge of before the edit is looked at: its state stays, or a step is made
use Rattle.std.specs.Prelude.{ℕ, not, List, [], ◌∷◌, ◌++◌, ◌==◌, filter, slice_index, if◌then◌else◌}
use Rattle.job_model.specs.Table.{Table}
use Rattle.start_windows.specs.declared.StartWindow.{StartWindow}
use Rattle.sag_step.specs.State.{SystemState}
use Rattle.sag_step.specs.Next.{next}
use Rattle.sag_step.specs.Group.{placed, place_of}
use Rattle.graph_rework.specs.declared.link.Link.{Link}
use Rattle.graph_rework.specs.declared.occupant.Occupant.{Occupant}
use Rattle.graph_rework.specs.declared.occupant.Occupant.TheVariants.{Stayed, Remade}
use Rattle.graph_rework.specs.Edit.{stays}
use Rattle.graph_rework.specs.Order.{joined, place_in_order, order_from}

-- the next level so far: the states that were made, and the order with those that stay
pub record Growing : Type 0 where
  pub made : List SystemState
  pub order : List Occupant

-- these of the states so far
abbrev pub grown : ℕ → List SystemState → Growing
grown e states = record { made = filter (λ s. not (stays e s)) states; order = order_from (stays e) 0 0 states }

-- the level with an offer that has job e
abbrev pub with_remade : Growing → SystemState → Growing
with_remade level offer = record { made = placed level.made offer; order = joined (Remade (place_of level.made offer)) level.order }

abbrev pub place_of_remade : Growing → SystemState → ℕ
place_of_remade level offer = place_in_order (Remade (place_of level.made offer)) level.order

-- the level with the state that stays of that rank
abbrev pub with_stayed : Growing → ℕ → Growing
with_stayed level rank = record { made = level.made; order = joined (Stayed rank) level.order }

abbrev pub place_of_stayed : Growing → ℕ → ℕ
place_of_stayed level rank = place_in_order (Stayed rank) level.order

-- the level so far, and the edges out of one state so far
pub record Reworked : Type 0 where
  pub level : Growing
  pub links : List Link

-- the edge by the job in its window to the state of that number
abbrev pub link_to : ℕ × StartWindow → ℕ → Link
link_to w to = record { job = w.0; window = w.1; to = to }

-- once the job has started in its window, by a step
abbrev pub after_step : Table → SystemState → Reworked → ℕ × StartWindow → Reworked
after_step table state so_far w =
    let offer = next table state w.0 w.1 in
    record { level = with_remade so_far.level offer; links = so_far.links ++ link_to w (place_of_remade so_far.level offer) ∷ [] }

-- Once an edge of before the edit is looked at. If it starts job e, a step is made, and else its state stays; `ranks` has the
-- rank of each state of the next level before the edit.
abbrev pub after_link : Table → ℕ → SystemState → List ℕ → Reworked → Link → Reworked
after_link table e state ranks so_far link =
    if link.job == e then after_step table state so_far (link.job, link.window)
    else (let rank = slice_index ranks link.to in
    record {
      level = with_stayed so_far.level rank;
      links = so_far.links ++ link_to (link.job, link.window) (place_of_stayed so_far.level rank) ∷ [];
    })
