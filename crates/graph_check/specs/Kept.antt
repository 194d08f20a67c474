-- What is kept of the lines of a certificate: a progress, or the first failure.
--     after_line table r line        what is kept after a line that passes its checks
--     Failure                        a clause, and the number of the line that breaks it, from 1
--     kept table m lines             what is kept of all these lines
--     first_failure table m lines    the failure alone, if there is one
--     HeldChecker                    a checker, without what it keeps where memory ran out
use Rattle.std.specs.Prelude.{ℕ, zero, suc, ◌+◌, List, [], ◌∷◌, ◌++◌, slice_get, slice_set, Option, Some, None, Result, Ok, Err}
use Rattle.std.specs.List.{fold}
use Rattle.std.specs.Option.{option_map_or}
use Rattle.job_model.specs.Table.{Table}
use Rattle.sag_time.specs.Interval.{Interval, hull}
use Rattle.sag_step.specs.Next.{finish_interval}
use Rattle.cert_text.specs.declared.line.CertLine.{CertLine}
use Rattle.cert_text.specs.declared.line.CertLine.TheVariants as line
use Rattle.graph_check.specs.declared.clause.Clause.{Clause}
use Rattle.graph_check.specs.declared.due.Due.TheVariants as due
use Rattle.graph_check.specs.Entries.{root_from}
use Rattle.graph_check.specs.Progress.{Progress, before_first_line, due_at_end, due_in_level}
use Rattle.graph_check.specs.Checks.{first_broken, child, due_checks}

-- the hulls with one more edge of the job
abbrev pub hulls_with : List (Option Interval) → ℕ → Interval → List (Option Interval)
hulls_with hulls job finish = slice_set hulls job (Some (option_map_or (λ o. option_map_or (hull finish) o finish) (slice_get hulls job) finish))

-- what is kept after a line that passes its checks, but for the number of lines
abbrev pub after_line : Table → Progress → CertLine → Progress
after_line table r (line.Head jobs cores) = record r { due = due.Level }
after_line table r (line.Level zero count) = record r { due = due.Root; count = count }
after_line table r (line.Level (suc k) count) =
    let next = record r { level = suc k; count = count; before = r.states; states = []; edges = 0 } in
    record next { due = due_in_level table next }
after_line table r (line.Root pairs) =
    let next = record r { states = root_from table pairs ∷ [] } in
    record next { due = due_in_level table next }
after_line table r (line.State parent job pairs ends last) =
    let state = option_map_or (λ p. child table p job pairs ends last ∷ []) (slice_get r.before parent) [] in
    let next = record r { states = r.states ++ state } in
    record next { due = due_in_level table next }
after_line table r (line.Edge from job est lst to) =
    let finish = finish_interval table job (record { est = est; lst = lst }) in
    let next = record r { edges = r.edges + 1; hulls = hulls_with r.hulls job finish } in
    record next { due = due_in_level table next }
after_line table r (line.Job number lo hi mark) =
    let next = record r { jobs = r.jobs ++ record { span = record { lo = lo; hi = hi }; mark = mark } ∷ [] } in
    record next { due = due_at_end table next }
after_line table r (line.Verdict mark) = record r { due = due.End }
after_line table r line.End = record r { due = due.Nothing }

-- the clause that a line breaks, and its number
pub record Failure : Type 0 where
  pub clause : Clause
  pub line : ℕ

-- one line more; a failure is kept
abbrev pub with_line : Table → ℕ → Result Progress Failure → CertLine → Result Progress Failure
with_line table m (Err failure) l = Err failure
with_line table m (Ok r) l =
    option_map_or (λ clause. Err (record { clause = clause; line = r.lines + 1 })) (first_broken (due_checks table m r r.due l))
    (Ok (record (after_line table r l) { lines = r.lines + 1 }))

-- what is kept of these lines, taken one by one
abbrev pub kept : Table → ℕ → List CertLine → Result Progress Failure
kept table m lines = fold (with_line table m) (Ok (before_first_line table)) lines

-- the failure, where one is kept
abbrev pub failure_of : Result Progress Failure → Option Failure
failure_of (Ok r) = None
failure_of (Err failure) = Some failure

-- the first failure of the lines, if there is one
abbrev pub first_failure : Table → ℕ → List CertLine → Option Failure
first_failure table m lines = failure_of (kept table m lines)

-- a checker in memory; it keeps nothing once memory ran out
pub record HeldChecker : Type 0 where
  pub table : Table
  pub cores : ℕ
  pub kept : Option (Result Progress Failure)
