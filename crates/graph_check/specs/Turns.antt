-- The offers of a level, one after another, in memory.
--     IsFit table m state          a state from which a step can be made
--     IsLevelState table m held    such a state with a front, and AreFit table m held      all of these are
--     level_states held            the states alone, without their fronts and their room
--     HeldTurns                    the states of a level, and how many of their offers have been passed
--     offer_at turns               the offer whose turn it is
--     Turn, turn_of offer          what names it
--     IsStart                      a job of the table, and a window in order
--     StandsAt                     what is kept: the windows of the state whose turn it is, and the place among them
use Rattle.std.specs.Prelude.{◌≡◌, ℕ, ◌+◌, ◌<◌, ◌≤◌, List, [], ◌++◌, drop, length, map, slice_get, Option}
use Rattle.std.specs.List.{AllByRecursion}
use Rattle.std.specs.Option.{option_map_or}
use Rattle.job_model.specs.Table.{Table}
use Rattle.start_windows.specs.declared.StartWindow.{StartWindow}
use Rattle.start_windows.specs.Eligible.{IsFront, eligible_windows}
use Rattle.sag_step.specs.declared.TheConstants.{MOST_STEP_TIME}
use Rattle.sag_step.specs.State.{SystemState, first_core}
use Rattle.sag_step.specs.Shape.{IsState, IsUpTo}
use Rattle.sag_step.specs.Offers.{Offer, offer_by, offers, offers_from}
use Rattle.graph_check.specs.declared.level_state.LevelState.{LevelState}
use Rattle.graph_check.specs.declared.turn.Turn.{Turn}

-- a state of the table, with numbers from which a step can be made
pub record IsFit (table : Table) (m : ℕ) (state : SystemState) : Type 0 where
  pub is_state : IsState table m state
  pub in_limit : IsUpTo MOST_STEP_TIME state

-- a state of a level: it is fit, and the place beside it is a front of its set
pub record IsLevelState (table : Table) (m : ℕ) (held : LevelState) : Type 0 where
  pub fit : IsFit table m held.state.state
  pub front : IsFront table held.state.state.set.members held.front

-- each of them is one
pub record AreFit (table : Table) (m : ℕ) (held : List LevelState) : Type 0 where
  pub each : AllByRecursion (IsLevelState table m) held

-- the states, without their fronts and their room
abbrev pub level_states : List LevelState → List SystemState
level_states held = map (λ h. h.state.state) held

-- the states of a level, and how many of their offers have been passed
pub record HeldTurns : Type 0 where
  pub table : Table
  pub cores : ℕ
  pub level : List SystemState
  pub passed : ℕ

-- the offer whose turn it is, if one is left
unfoldable pub offer_at : HeldTurns → Option Offer
offer_at turns = slice_get (offers turns.table turns.level) turns.passed

-- what names an offer
abbrev pub turn_of : Offer → Turn
turn_of o = record { from = o.from; job = o.job; window = o.window }

-- a job of the table, and a window in order
pub record IsStart (table : Table) (job : ℕ) (window : StartWindow) : Type 0 where
  pub is_job : job < length table.jobs
  pub in_order : window.est ≤ window.lst

-- ---- what is kept

-- each job that may be the next in the state of that number, with its window
unfoldable pub windows_at : Table → List SystemState → ℕ → List (ℕ × StartWindow)
windows_at table level at = option_map_or (λ s. eligible_windows table s.set.members s.ends (first_core s)) (slice_get level at) []

-- the offers of the state of that number by these windows, and then those of all later states
unfoldable pub offers_left : Table → List SystemState → ℕ → List (ℕ × StartWindow) → List Offer
offers_left table level at windows = option_map_or (λ s. map (offer_by table at s) windows) (slice_get level at) [] ++ offers_from table level (at + 1)

-- The windows are those of state number `at`, the offers that are left are its ones from the place on and those of later
-- states, and where no window is left no state is.
pub record StandsAt (turns : HeldTurns) (at : ℕ) (windows : List (ℕ × StartWindow)) (place : ℕ) : Type 0 where
  pub own : windows ≡ windows_at turns.table turns.level at
  pub left : drop turns.passed (offers turns.table turns.level) ≡ offers_left turns.table turns.level at (drop place windows)
  pub settled : length windows ≤ place → length turns.level ≤ at
