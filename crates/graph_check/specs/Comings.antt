-- What comes of a line.
--     ends_of_line list             the ends that a line gives
--     AreEnds size items            they rise, are of jobs below the size, and none ends before it begins
--     FindsState table m state found     the state was found exactly where it has the shape of one
--     HeldProgress                   a progress in memory
--     due_for line                  when a line of this kind is due
--     turn_clause r due kind        what a line of a kind breaks where another is due
--     Comes table m old line result new     the progress after a line, the clause that it breaks, or want of memory
--     edge_offer, has_candidate, child_members, IsOrigin      parts of an edge line and of a state line
--     StepsOn table m old line result new   the step of a progress in memory
--     with_due table r, at_level r number   the progress with the line due that its level says; at the beginning of a level
use Rattle.std.specs.Prelude.{◌≡◌, ℕ, ◌+◌, Bool, true, false, List, [], slice_get, map, nat_le, nat_lt, length, IsTrue, Option, Some, None, Result, Ok, Err, if◌then◌else◌}
use Rattle.std.specs.List.{list_all}
use Rattle.std.specs.Map.{keys_of}
use Rattle.std.specs.Option.{option_map_or}
use Rattle.job_sets.specs.Subset.{Subset, is_rising, with_number}
use Rattle.job_model.specs.Table.{Table}
use Rattle.sag_time.specs.Interval.{Interval}
use Rattle.sag_step.specs.State.{SystemState, HeldState}
use Rattle.start_windows.specs.Window.{is_candidate}
use Rattle.sag_step.specs.Shape.{has_shape}
use Rattle.sag_step.specs.Offers.{Offer, offers}
use Rattle.cert_text.specs.declared.line.EndOf.{EndOf}
use Rattle.cert_text.specs.declared.line.CertLine.{CertLine}
use Rattle.cert_text.specs.declared.line.CertLine.TheVariants as line
use Rattle.graph_check.specs.declared.clause.Clause.{Clause}
use Rattle.graph_check.specs.declared.clause.Clause.TheVariants.{K2, K4, K6}
use Rattle.graph_check.specs.declared.due.Due.{Due}
use Rattle.graph_check.specs.declared.level_state.LevelState.{LevelState}
use Rattle.graph_check.specs.declared.due.Due.TheVariants as due
use Rattle.graph_check.specs.declared.answer.Broken.{Broken}
use Rattle.graph_check.specs.declared.answer.Broken.TheVariants as broken
use Rattle.graph_check.specs.Progress.{Progress, due_in_level}
use Rattle.graph_check.specs.Checks.{first_broken, due_checks, is_behind_block}
use Rattle.graph_check.specs.Kept.{after_line, with_line}
use Rattle.graph_check.specs.Turns.{IsFit, IsLevelState}

-- ---- the state of a line

-- the ends that a line gives
abbrev pub ends_of_line : List EndOf → List (ℕ × Interval)
ends_of_line ends = map (λ e. (e.job, record { lo = e.lo; hi = e.hi })) ends

-- They rise, are of jobs below the size, and none ends before it begins.
pub record AreEnds (size : ℕ) (items : List (ℕ × Interval)) : Type 0 where
  pub rising : IsTrue (is_rising (keys_of items))
  pub in_range : IsTrue (list_all (λ j. nat_lt j size) (keys_of items))
  pub spans : IsTrue (list_all (λ e. nat_le e.1.lo e.1.hi) items)

-- of a state that has the shape of one, and in memory is that state
pub record IsGiven (table : Table) (m : ℕ) (state : SystemState) (held : HeldState) : Type 0 where
  pub is_state : held.state ≡ state
  pub shape : has_shape table m state ≡ true
  pub fit : IsFit table m state

-- The state was found exactly where it has the shape of one.
unfoldable pub FindsState : Table → ℕ → SystemState → Option HeldState → Type 0
FindsState table m state (Some held) = IsGiven table m state held
FindsState table m state None = has_shape table m state ≡ false

-- ---- a line

-- a progress in memory
pub record HeldProgress : Type 0 where
  pub table : Table
  pub cores : ℕ
  pub progress : Progress

-- when a line of this kind is due
abbrev pub due_for : CertLine → Due
due_for (line.Head jobs cores) = due.Head
due_for (line.Level number count) = due.Level
due_for (line.Root pairs) = due.Root
due_for (line.State parent job pairs ends last) = due.State
due_for (line.Edge from job est lst to) = due.Edge
due_for (line.Job number lo hi mark) = due.Job
due_for (line.Verdict mark) = due.Verdict
due_for line.End = due.End

-- the clause that a line of a kind breaks where another kind is due
abbrev pub turn_clause : Progress → Due → Due → Clause
turn_clause r due.Edge kind = K6
turn_clause r other due.Edge = if is_behind_block r other then K6 else K2
turn_clause r other kind = K2

-- The line passes its checks, and the progress is the one after it; or the clause is that of the first check that fails.
unfoldable pub Comes : Table → ℕ → Progress → CertLine → Result Unit Broken → Progress → Type 0
Comes table m r l (Ok u) new = (first_broken (due_checks table m r r.due l) ≡ None) × (new ≡ after_line table r l)
Comes table m r l (Err (broken.Clause clause)) new = first_broken (due_checks table m r r.due l) ≡ Some clause
Comes table m r l (Err broken.Memory) new = Unit {0}

-- ---- parts of a line

-- a progress in memory: the offer whose turn it is, if one is left
unfoldable pub edge_offer : HeldProgress → Option Offer
edge_offer h = slice_get (offers h.table h.progress.before) h.progress.edges

-- The parent is there, and has the job for a candidate.
abbrev pub has_candidate : Table → List SystemState → ℕ → ℕ → Bool
has_candidate table before parent job = option_map_or (λ p. is_candidate table p.set.members job) (slice_get before parent) false

-- the jobs of the parent, and that job
abbrev pub child_members : List SystemState → ℕ → ℕ → List ℕ
child_members before parent job = option_map_or (λ p. with_number job p.set.members) (slice_get before parent) []

-- The parent is the state of that number, with numbers from which a step can be made, and the job is a candidate of it.
pub record IsOrigin (table : Table) (m : ℕ) (before : List SystemState) (parent job : ℕ) (held : LevelState) (number : ℕ) : Type 0 where
  pub there : slice_get before parent ≡ Some held.state.state
  pub level_state : IsLevelState table m held
  pub same_job : number ≡ job
  pub candidate : is_candidate table held.state.state.set.members number ≡ true

-- a progress after one line more, or the failure at that line
unfoldable pub StepsOn : Table → ℕ → Progress → CertLine → Result Unit Broken → Progress → Type 0
StepsOn table m r l (Ok u) new = with_line table m (Ok r) l ≡ Ok new
StepsOn table m r l (Err (broken.Clause clause)) new = with_line table m (Ok r) l ≡ Err (record { clause = clause; line = r.lines + 1 })
StepsOn table m r l (Err broken.Memory) new = Unit {0}

-- the progress, with that line due that its level says
abbrev pub with_due : Table → Progress → Progress
with_due table r = record r { due = due_in_level table r }

-- at the beginning of the next level: the states so far are those of the one before it
abbrev pub at_level : Progress → ℕ → Progress
at_level r number = record r { level = number; before = r.states; states = []; edges = 0 }

-- of a clause that is broken
abbrev pub IfClause : (Clause → Type 0) → Broken → Type 0
IfClause P (broken.Clause clause) = P clause
IfClause P broken.Memory = Unit {0}
