-- The offers of a level: the states that its states lead to, job by job. In the literature (Nasri and Brandenburg, RTSS 2017;
-- Nasri, Nelissen and Brandenburg, ECRTS 2018 and 2019) the expansion phase: each eligible job of each state gives an edge.
--     Offer                       a state's next state by an eligible job
--     offers_of table s           the offers of one state, with its number
--     offer_by table from s w     the offer of state number `from` by a job in its window
--     offers table level          those of all states, by rising (state number, job)
--     offers_from table level i   those of the states from number i on
use Rattle.std.specs.Prelude.{ℕ, List, drop, length, filter_map, flat_map, option_map}
use Rattle.std.specs.List.{enumerate_from}
use Rattle.lists.specs.Numbers.{numbers_below}
use Rattle.job_model.specs.Table.{Table}
use Rattle.start_windows.specs.declared.StartWindow.{StartWindow}
use Rattle.sag_step.specs.State.{SystemState, state_window}
use Rattle.sag_step.specs.Next.{next}

-- state number `from` of a level, an eligible job of it, its window, and the next state
pub record Offer : Type 0 where
  pub from : ℕ
  pub job : ℕ
  pub window : StartWindow
  pub next : SystemState

-- the offer of state number `from` by a job in its window
abbrev pub offer_by : Table → ℕ → SystemState → ℕ × StartWindow → Offer
offer_by table from s w = record { from = from; job = w.0; window = w.1; next = next table s w.0 w.1 }

-- the offers of one state, by rising job number
abbrev pub offers_of : Table → ℕ × SystemState → List Offer
offers_of table s =
    filter_map (λ j. option_map (λ window. record { from = s.0; job = j; window = window; next = next table s.1 j window }) (state_window table s.1 j))
    (numbers_below (length table.jobs))

-- the offers of all states of a level, by rising (state number, job)
abbrev pub offers : Table → List SystemState → List Offer
offers table level = flat_map (offers_of table) (enumerate_from 0 level)

-- the offers of the states from number i on
abbrev pub offers_from : Table → List SystemState → ℕ → List Offer
offers_from table level i = flat_map (offers_of table) (enumerate_from i (drop i level))
