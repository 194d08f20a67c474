-- The text of a schedule.
--     schedule_heading                         the words of its first line
--     schedule_row table scenario schedule j   the numbers of the row of job number j
--     schedule_text table scenario schedule    the heading, and a row for each job in the order of dispatch
use Rattle.std.specs.Prelude.{ℕ, List, [], ◌∷◌, codes, map}
use Rattle.csv_numbers.specs.RowsText.{rows_text}
use Rattle.job_model.specs.Table.{Table, job_at}
use Rattle.run_meaning.specs.declared.places.Place.{Place}
use Rattle.run_meaning.specs.Order.{dispatch_order}
use Rattle.run_meaning.specs.Ready.{core_of, finish_of, start_of}

-- the words of the first line
abbrev pub schedule_heading : List (List ℕ)
schedule_heading = codes "Task ID" ∷ codes "Job ID" ∷ codes "Start" ∷ codes "Finish" ∷ codes "Core" ∷ []

-- the IDs of job number j, when it starts and finishes, and its core
abbrev pub schedule_row : Table → List (ℕ × ℕ) → List Place → ℕ → List ℕ
schedule_row table scenario schedule j =
    (job_at table j).task ∷ (job_at table j).job ∷ start_of schedule j ∷ finish_of scenario schedule j ∷ core_of schedule j ∷ []

-- the heading, and a row for each job: by start, and at one start by urgency
abbrev pub schedule_text : Table → List (ℕ × ℕ) → List Place → List ℕ
schedule_text table scenario schedule = rows_text schedule_heading (map (schedule_row table scenario schedule) (dispatch_order table schedule))
