-- The checks of a line, in order: the first that fails names the clause that the line breaks.
--     Checks                         clauses, each with the outcome of its test
--     first_broken checks            the clause of the first that fails
--     due_checks table m r due line  the checks of a line where this kind of line is due
use Rattle.std.specs.Prelude.{ℕ, Bool, true, false, ◌&&◌, ◌||◌, ◌==◌, nat_lt, nat_le, List, [], ◌∷◌, length, slice_get, Option, Some, None, if◌then◌else◌}
use Rattle.std.specs.Bool.{beq}
use Rattle.std.specs.Option.{option_map_or}
use Rattle.std.specs.List.{list_all}
use Rattle.job_sets.specs.Subset.{with_number}
use Rattle.job_model.specs.Table.{Table, job_at}
use Rattle.sag_time.specs.Interval.{Interval, covers}
use Rattle.start_windows.specs.Window.{is_candidate}
use Rattle.sag_step.specs.State.{SystemState, root}
use Rattle.sag_step.specs.Widen.{widens}
use Rattle.sag_step.specs.Shape.{has_shape}
use Rattle.sag_step.specs.Offers.{Offer, offers}
use Rattle.cert_text.specs.declared.line.Pair.{Pair}
use Rattle.cert_text.specs.declared.line.EndOf.{EndOf}
use Rattle.cert_text.specs.declared.line.Mark.{Mark}
use Rattle.cert_text.specs.declared.line.CertLine.{CertLine}
use Rattle.cert_text.specs.declared.line.CertLine.TheVariants as line
use Rattle.graph_check.specs.declared.clause.Clause.{Clause}
use Rattle.graph_check.specs.declared.clause.Clause.TheVariants.{K1, K2, K3, K4, K5, K6, K7, K8, K9, K10, K11}
use Rattle.graph_check.specs.declared.due.Due.{Due}
use Rattle.graph_check.specs.declared.due.Due.TheVariants as due
use Rattle.graph_check.specs.Entries.{state_from, root_from, is_ok_mark}
use Rattle.graph_check.specs.Progress.{Progress, level_due}

-- clauses, each with the outcome of its test
abbrev pub Checks : Type 0
Checks = List (Clause × Bool)

-- the clause of the first check that fails
abbrev pub first_broken : Checks → Option Clause
first_broken [] = None
first_broken (c ∷ checks) = if c.1 then first_broken checks else Some c.0

-- the state that a line gives, by its parent
abbrev pub child : Table → SystemState → ℕ → List Pair → List EndOf → List ℕ → SystemState
child table parent job pairs ends last = state_from table (with_number job parent.set.members) pairs ends last

-- of a state line, by the parent that it names
abbrev pub state_checks : Table → ℕ → Option SystemState → ℕ → List Pair → List EndOf → List ℕ → Checks
state_checks table m None job pairs ends last = (K4, false) ∷ []
state_checks table m (Some parent) job pairs ends last =
    (K4, is_candidate table parent.set.members job) ∷ (K5, has_shape table m (child table parent job pairs ends last)) ∷ []

-- of an edge line, against the offer whose turn it is
abbrev pub edge_checks : List SystemState → Option Offer → ℕ → ℕ → ℕ → ℕ → ℕ → Checks
edge_checks states None from job est lst to = (K6, false) ∷ []
edge_checks states (Some o) from job est lst to =
    (K6, (from == o.from) && (job == o.job))
    ∷ (K7, (est == o.window.est) && (lst == o.window.lst))
    ∷ (K8, option_map_or (λ s. widens s o.next) (slice_get states to) false) ∷ []

-- the interval covers those of the job's edges, if it has any
abbrev pub covers_hull : List (Option Interval) → ℕ → Interval → Bool
covers_hull hulls number span = option_map_or (λ o. option_map_or (covers span) o true) (slice_get hulls number) true

-- of a job line: its number is the one due, its interval covers those of its edges, its mark is right
abbrev pub job_checks : Table → Progress → ℕ → Interval → Mark → Checks
job_checks table r number span mark =
    (K2, number == length r.jobs)
    ∷ (K9, nat_le span.lo span.hi && covers_hull r.hulls number span)
    ∷ (K10, beq (is_ok_mark mark) (nat_le span.hi (job_at table number).deadline)) ∷ []

-- A level above 0 was just read whole, with its edges.
abbrev pub is_behind_block : Progress → Due → Bool
is_behind_block r due.Level = nat_lt 0 r.level
is_behind_block r due.Job = nat_lt 0 r.level && (length r.jobs == 0)
is_behind_block r _ = false

-- The checks of a line where this kind of line is due. A line of another kind breaks K6 while an edge is due; an edge where
-- none is left breaks K6 right behind its level; any other breaks K2.
abbrev pub due_checks : Table → ℕ → Progress → Due → CertLine → Checks
due_checks table m r due.Head (line.Head jobs cores) = (K1, (jobs == length table.jobs) && (cores == m)) ∷ []
due_checks table m r due.Level (line.Level number count) = (K2, number == level_due r) ∷ (K3, nat_lt 0 number || (count == 1)) ∷ []
due_checks table m r due.Root (line.Root pairs) =
    (K5, has_shape table m (root_from table pairs)) ∷ (K3, widens (root_from table pairs) (root table m)) ∷ []
due_checks table m r due.State (line.State parent job pairs ends last) = state_checks table m (slice_get r.before parent) job pairs ends last
due_checks table m r due.Edge (line.Edge from job est lst to) = edge_checks r.states (slice_get (offers table r.before) r.edges) from job est lst to
due_checks table m r due.Job (line.Job number lo hi mark) = job_checks table r number (record { lo = lo; hi = hi }) mark
due_checks table m r due.Verdict (line.Verdict mark) = (K11, beq (is_ok_mark mark) (list_all (λ s. is_ok_mark s.mark) r.jobs)) ∷ []
due_checks table m r due.End line.End = []
due_checks table m r due.Edge _ = (K6, false) ∷ []
due_checks table m r other (line.Edge from job est lst to) = (if is_behind_block r other then K6 else K2, false) ∷ []
due_checks table m r _ _ = (K2, false) ∷ []
