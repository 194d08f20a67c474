-- Laws of states.
--     ShapeIsTested            the test of the shape tells exactly whether it is there
--     RootIsShaped             the root can stand in memory
--     SomeStepIsLeft           a state that has an undispatched job has a next state
--     NextIsState              the next state is a state
--     NextIsUpTo               its numbers are greater by one job's cost at most
--     FinishIsUpTo             the job of the step finishes within that limit
--     NextIsShaped             from a state with room for that, the next can stand in memory
--     ScratchHasRoom           room for as many ends as the table has jobs is enough for each step
--     ShapedAreComparable      two states for one table and one number of cores are comparable
--     WideningIsReflexive, WideningIsTransitive
--     StateHullIsLeast         the hull of comparable states of one set is the least state that widens both
--     HullIsState              the hull of two states of one set is a state
--     HullIsUpTo               its numbers are within a limit of both
--     HullIsShaped             the hull of two states that can stand in memory can
use Rattle.std.specs.Prelude.{◌≡◌, ℕ, ◌+◌, ◌<◌, ◌≤◌, ◌↔◌, length, IsSome, IsTrue, Some}
use Rattle.job_model.specs.declared.limits.TheConstants.{MOST_ARRIVAL, MOST_COST}
use Rattle.job_model.specs.Table.{Table, IsTable}
use Rattle.start_windows.specs.declared.StartWindow.{StartWindow}
use Rattle.sag_step.specs.declared.TheConstants.{MOST_STEP_TIME}
use Rattle.sag_step.specs.State.{SystemState, root, state_window}
use Rattle.sag_step.specs.Shape.{HasShape, has_shape, IsState, IsUpTo, Shaped}
use Rattle.sag_step.specs.Next.{finish_interval, next}
use Rattle.sag_step.specs.Widen.{same_set, state_hull, widens, AreComparable}

-- The test of the shape passes exactly where the shape is there.
abbrev pub ShapeIsTested : Type 0
ShapeIsTested = (table : Table) (m : ℕ) (state : SystemState) → IsTrue (has_shape table m state) ↔ HasShape table m state

-- The root can stand in memory.
abbrev pub RootIsShaped : Type 0
RootIsShaped = (table : Table) (m : ℕ) → 0 < m → Shaped table m (root table m)

-- Where some job is not dispatched, some job may be the next to start.
abbrev pub SomeStepIsLeft : Type 0
SomeStepIsLeft =
    (table : Table) (m : ℕ) (state : SystemState) → IsTable table → IsState table m state → length state.set.members < length table.jobs →
    (j : ℕ) × (j < length table.jobs) × IsSome (state_window table state j)

-- The state after a job that may be the next to start is a state.
abbrev pub NextIsState : Type 0
NextIsState =
    (table : Table) (m : ℕ) (state : SystemState) (j : ℕ) (window : StartWindow) → IsTable table → IsState table m state →
    state_window table state j ≡ Some window → IsState table m (next table state j window)

-- A step adds the greatest cost of a job at most, to a limit that no release is above.
abbrev pub NextIsUpTo : Type 0
NextIsUpTo =
    (table : Table) (state : SystemState) (j : ℕ) (window : StartWindow) (limit : ℕ) → IsTable table → IsUpTo limit state → MOST_ARRIVAL ≤ limit →
    state_window table state j ≡ Some window → IsUpTo (limit + MOST_COST) (next table state j window)

-- The job of the step finishes within that limit.
abbrev pub FinishIsUpTo : Type 0
FinishIsUpTo =
    (table : Table) (state : SystemState) (j : ℕ) (window : StartWindow) (limit : ℕ) → IsTable table → IsUpTo limit state → MOST_ARRIVAL ≤ limit →
    state_window table state j ≡ Some window → (finish_interval table j window).hi ≤ limit + MOST_COST

-- From a state whose numbers leave room for a step the next can stand in memory.
abbrev pub NextIsShaped : Type 0
NextIsShaped =
    (table : Table) (m : ℕ) (state : SystemState) (j : ℕ) (window : StartWindow) → IsTable table → IsState table m state → IsUpTo MOST_STEP_TIME state →
    state_window table state j ≡ Some window → Shaped table m (next table state j window)

-- A state from which a job may be the next to start tracks fewer jobs than the table has.
abbrev pub ScratchHasRoom : Type 0
ScratchHasRoom =
    (table : Table) (m : ℕ) (state : SystemState) (j : ℕ) (window : StartWindow) → IsState table m state →
    state_window table state j ≡ Some window → length state.ends < length table.jobs

-- Two states for one table and one number of cores are comparable.
abbrev pub ShapedAreComparable : Type 0
ShapedAreComparable = (table : Table) (m : ℕ) (a b : SystemState) → IsState table m a → IsState table m b → AreComparable a b

abbrev pub WideningIsReflexive : Type 0
WideningIsReflexive = (a : SystemState) → IsTrue (widens a a)

abbrev pub WideningIsTransitive : Type 0
WideningIsTransitive = (a b c : SystemState) → IsTrue (widens a b) → IsTrue (widens b c) → IsTrue (widens a c)

-- The hull of two comparable states of one set widens both, and each state that widens both widens it.
abbrev pub StateHullIsLeast : Type 0
StateHullIsLeast =
    (a b : SystemState) → AreComparable a b → IsTrue (same_set a.set b.set) →
    IsTrue (widens (state_hull a b) a) × IsTrue (widens (state_hull a b) b)
    × ((c : SystemState) → IsTrue (widens c a) → IsTrue (widens c b) → IsTrue (widens c (state_hull a b)))

-- The hull of two states of one set is a state.
abbrev pub HullIsState : Type 0
HullIsState =
    (table : Table) (m : ℕ) (a b : SystemState) → IsState table m a → IsState table m b → IsTrue (same_set a.set b.set) → IsState table m (state_hull a b)

-- No number of the hull is above a limit of both.
abbrev pub HullIsUpTo : Type 0
HullIsUpTo = (limit : ℕ) (a b : SystemState) → IsUpTo limit a → IsUpTo limit b → IsUpTo limit (state_hull a b)

-- The hull of two states of one set that can stand in memory can.
abbrev pub HullIsShaped : Type 0
HullIsShaped =
    (table : Table) (m : ℕ) (a b : SystemState) → Shaped table m a → Shaped table m b → IsTrue (same_set a.set b.set) → Shaped table m (state_hull a b)
