-- All runs are covered, state by state.
--     RootCovers                 the root covers the start of every run
--     IsStepOf .. j window       the step by job j in its window covers one job more
--     StepsCover                 from a state that covers a prefix, the step by the next job covers one job more
--     WiderCovers                what widens a covering state covers
use Rattle.std.specs.Prelude.{ℕ, List, ◌+◌, ◌≤◌, ◌<◌, length, slice_index, IsTrue, IsSomeAnd}
use Rattle.job_model.specs.Table.{Table, IsTable}
use Rattle.job_model.specs.Scenario.{Fits}
use Rattle.start_windows.specs.declared.StartWindow.{StartWindow}
use Rattle.run_meaning.specs.declared.places.Place.{Place}
use Rattle.run_meaning.specs.Ready.{start_of}
use Rattle.run_meaning.specs.Legal.{Legal}
use Rattle.run_meaning.specs.Order.{dispatch_order}
use Rattle.sag_step.specs.State.{SystemState, root, state_window}
use Rattle.sag_step.specs.Next.{next}
use Rattle.sag_step.specs.Widen.{widens}
use Rattle.sag_step.specs.Shape.{HasShape}
use Rattle.run_cover.specs.Covers.{Covers}

-- The root covers the empty prefix of every legal schedule.
abbrev pub RootCovers : Type 0
RootCovers =
    (table : Table) (m : ℕ) (scenario : List (ℕ × ℕ)) (schedule : List Place) → Legal table m scenario schedule →
    Covers table m scenario schedule 0 (root table m)

-- The start of job j is in the window, and every state that widens the next one covers one job more.
pub record IsStepOf (table : Table) (m : ℕ) (scenario : List (ℕ × ℕ)) (schedule : List Place) (count : ℕ) (state : SystemState) (j : ℕ) (window : StartWindow) : Type 0 where
  pub not_before : window.est ≤ start_of schedule j
  pub not_after : start_of schedule j ≤ window.lst
  pub covers_next : (wider : SystemState) → IsTrue (widens wider (next table state j window)) → Covers table m scenario schedule (count + 1) wider

-- Where a state covers a prefix, the next job by (start, urgency) may be the next to start, and its step covers one job more.
abbrev pub StepsCover : Type 0
StepsCover =
    (table : Table) (m : ℕ) (scenario : List (ℕ × ℕ)) (schedule : List Place) (count : ℕ) (state : SystemState) →
    IsTable table → Fits table scenario → Legal table m scenario schedule → HasShape table m state → count < length table.jobs →
    Covers table m scenario schedule count state →
    IsSomeAnd (state_window table state (slice_index (dispatch_order table schedule) count))
    (IsStepOf table m scenario schedule count state (slice_index (dispatch_order table schedule) count))

-- What widens a state that covers a prefix covers it.
abbrev pub WiderCovers : Type 0
WiderCovers =
    (table : Table) (m : ℕ) (scenario : List (ℕ × ℕ)) (schedule : List Place) (count : ℕ) (wide state : SystemState) → IsTrue (widens wide state) →
    Covers table m scenario schedule count state → Covers table m scenario schedule count wide
