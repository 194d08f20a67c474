-- Files of recorded runs, in the columns of a schedule: a row for each job, in any order, with its start, finish and core.
--     start_in row, finish_in row, core_in row      the columns of a row
--     place_in row                                  when and where its job starts
--     outside_in_run scenario j row                 the leftmost column that is not right for job number j
--     RunText table scenario bytes schedule         the file gives each job its place of the schedule
use Rattle.std.specs.Prelude.{◌+◌, ◌==◌, ℕ, List, Option, None, Some, if◌then◌else◌, nat_lt, not, slice_index}
use Rattle.job_model.specs.Scenario.{cost_of}
use Rattle.job_model.specs.Table.{Table}
use Rattle.run_meaning.specs.declared.places.Place.{Place}
use Rattle.run_meaning.specs.Ready.{no_place}
use Rattle.side_csv.specs.RowPerJob.{GivesEach}
use Rattle.job_model.specs.declared.limits.TheConstants.{MOST_START}
use Rattle.side_csv.specs.declared.run.TheConstants.{MOST_CORE}

abbrev pub start_in : List ℕ → ℕ
start_in row = slice_index row 2

abbrev pub finish_in : List ℕ → ℕ
finish_in row = slice_index row 3

abbrev pub core_in : List ℕ → ℕ
core_in row = slice_index row 4

-- when and where the job of the row starts
abbrev pub place_in : List ℕ → Place
place_in row = record { start = start_in row; core = core_in row }

-- A start is at most MOST_START, a finish is the start and the cost of the job, and a core has a number of 16 bits.
abbrev pub outside_in_run : List (ℕ × ℕ) → ℕ → List ℕ → Option ℕ
outside_in_run scenario j row =
    if nat_lt MOST_START (start_in row) then Some 3
    else if not (finish_in row == start_in row + cost_of scenario j) then Some 4
    else if nat_lt MOST_CORE (core_in row) then Some 5
    else None

-- The rows of the file keep the rules, and one of them gives each job its place of the schedule.
abbrev pub RunText : Table → List (ℕ × ℕ) → List ℕ → List Place → Type 0
RunText table scenario bytes schedule = GivesEach 5 (outside_in_run scenario) place_in no_place table bytes schedule
