-- What an audit looks at of each job of a schedule: when it is ready, starts and finishes, its core, and its rank.
--     entry_of_job table scenario schedule j      the entry of job number j
--     entries_of_run table scenario schedule      those of all jobs, by number
--     start_at, ready_at, .. entries j        the parts of entry j
use Rattle.std.specs.Prelude.{ℕ, List, length, map, slice_index_or}
use Rattle.lists.specs.Numbers.{numbers_below}
use Rattle.job_model.specs.Ranks.{rank_of}
use Rattle.job_model.specs.Table.{Table}
use Rattle.run_meaning.specs.declared.places.Place.{Place}
use Rattle.run_meaning.specs.Ready.{start_of, core_of, finish_of, ready_time}
use Rattle.run_audit.specs.declared.entries.Entry.{Entry}

abbrev pub entry_of_job : Table → List (ℕ × ℕ) → List Place → ℕ → Entry
entry_of_job table scenario schedule j = record {
  ready = ready_time table scenario schedule j;
  start = start_of schedule j;
  finish = finish_of scenario schedule j;
  core = core_of schedule j;
  rank = rank_of table j;
}

abbrev pub entries_of_run : Table → List (ℕ × ℕ) → List Place → List Entry
entries_of_run table scenario schedule = map (entry_of_job table scenario schedule) (numbers_below (length table.jobs))

-- read only past the end
abbrev pub no_entry : Entry
no_entry = record { ready = 0; start = 0; finish = 0; core = 0; rank = 0 }

abbrev pub entry_at : List Entry → ℕ → Entry
entry_at entries j = slice_index_or entries j no_entry

abbrev pub ready_at : List Entry → ℕ → ℕ
ready_at entries j = (entry_at entries j).ready

abbrev pub start_at : List Entry → ℕ → ℕ
start_at entries j = (entry_at entries j).start

abbrev pub finish_at : List Entry → ℕ → ℕ
finish_at entries j = (entry_at entries j).finish

abbrev pub core_at : List Entry → ℕ → ℕ
core_at entries j = (entry_at entries j).core

abbrev pub rank_at : List Entry → ℕ → ℕ
rank_at entries j = (entry_at entries j).rank
