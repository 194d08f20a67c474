-- What is kept of the lines of a certificate while no clause is broken, and which line is due.
--     Progress                        what is kept
--     before_first_line table                    before the first line
--     due_in_level table r           which line is due once a level has begun
--     level_due r                    the number that the next level has
use Rattle.std.specs.Prelude.{ℕ, ◌==◌, ◌+◌, nat_lt, List, [], map, length, Option, None, if◌then◌else◌}
use Rattle.job_model.specs.Table.{Table}
use Rattle.sag_time.specs.Interval.{Interval}
use Rattle.sag_step.specs.State.{SystemState}
use Rattle.sag_step.specs.Offers.{offers}
use Rattle.graph_check.specs.declared.due.Due.{Due}
use Rattle.graph_check.specs.declared.due.Due.TheVariants as due
use Rattle.graph_check.specs.Entries.{JobEntry}

-- what is kept while no clause is broken
pub record Progress : Type 0 where
  -- how many lines were read, and the kind of line that is due
  pub lines : ℕ
  pub due : Due
  -- the level reached, and its stated count of states
  pub level : ℕ
  pub count : ℕ
  -- the states of the level before it, and those of the level so far
  pub before : List SystemState
  pub states : List SystemState
  -- how many edges into the level were read
  pub edges : ℕ
  -- for each job the hull of its edges' finish intervals, if it has an edge
  pub hulls : List (Option Interval)
  -- the intervals and marks of the jobs so far
  pub jobs : List JobEntry

-- before the first line
abbrev pub before_first_line : Table → Progress
before_first_line table = record { lines = 0; due = due.Head; level = 0; count = 0; before = []; states = []; edges = 0; hulls = map (λ _. None) table.jobs; jobs = [] }

-- once all levels are read: the jobs, and then the verdict
abbrev pub due_at_end : Table → Progress → Due
due_at_end table r = if nat_lt (length r.jobs) (length table.jobs) then due.Job else due.Verdict

-- in a level, from its first line on: its states, its edges, and then the next level
abbrev pub due_in_level : Table → Progress → Due
due_in_level table r =
    if nat_lt (length r.states) r.count then due.State else
    (if nat_lt r.edges (length (offers table r.before)) then due.Edge else
    (if nat_lt r.level (length table.jobs) then due.Level else due_at_end table r))

-- the number that a level line is due to have: 0 before the first of them
abbrev pub level_due : Progress → ℕ
level_due r = if r.lines == 1 then 0 else r.level + 1
