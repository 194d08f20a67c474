-- Small job tables.
--     job_of row                 the job of a row, as a job file has it
--     blocking_table             two jobs, of which the less urgent may start first and block the other
--     one_predecessor_table      three jobs, of which the third waits for the first
--     wide_release_table         two jobs, of which the less urgent is released before, with or after the other
--     late_and_urgent_table      three jobs, of which the most urgent is long and may come late
use Rattle.std.specs.Prelude.{ℕ, List, [], ◌∷◌, slice_index}
use Rattle.job_model.specs.declared.job_row.Job.{Job}
use Rattle.job_model.specs.Table.{Table, table_of}

-- the job of a row: task, job, earliest and latest release, least and greatest cost, deadline, priority
abbrev pub job_of : List ℕ → Job
job_of row = record {
  task = slice_index row 0;
  job = slice_index row 1;
  rmin = slice_index row 2;
  rmax = slice_index row 3;
  cmin = slice_index row 4;
  cmax = slice_index row 5;
  deadline = slice_index row 6;
  priority = slice_index row 7;
}

-- job 1 of task 1 is the more urgent, and may be released one unit late
unfoldable pub blocking_table : Table
blocking_table = table_of (
    record { task = 1; job = 1; rmin = 0; rmax = 1; cmin = 1; cmax = 2; deadline = 5; priority = 1 }
    ∷ record { task = 2; job = 1; rmin = 0; rmax = 0; cmin = 2; cmax = 3; deadline = 9; priority = 2 } ∷ [])

-- job 1 of task 3 waits for job 1 of task 1
unfoldable pub one_predecessor_table : Table
one_predecessor_table = record {
  jobs =
      record { task = 1; job = 1; rmin = 0; rmax = 0; cmin = 2; cmax = 4; deadline = 10; priority = 1 }
      ∷ record { task = 2; job = 1; rmin = 0; rmax = 0; cmin = 1; cmax = 1; deadline = 10; priority = 2 }
      ∷ record { task = 3; job = 1; rmin = 0; rmax = 0; cmin = 1; cmax = 2; deadline = 6; priority = 3 } ∷ [];
  edges = (0, 2) ∷ [];
}

-- job 1 of task 1 may be released at any time from 0 to 10
unfoldable pub wide_release_table : Table
wide_release_table = table_of (
    record { task = 1; job = 1; rmin = 0; rmax = 10; cmin = 1; cmax = 1; deadline = 11; priority = 2 }
    ∷ record { task = 2; job = 1; rmin = 5; rmax = 5; cmin = 1; cmax = 1; deadline = 6; priority = 1 } ∷ [])

-- job 1 of task 1 is the most urgent, costs 10, and may be released 5 units late
unfoldable pub late_and_urgent_table : Table
late_and_urgent_table = table_of (
    record { task = 1; job = 1; rmin = 0; rmax = 5; cmin = 10; cmax = 10; deadline = 20; priority = 1 }
    ∷ record { task = 2; job = 1; rmin = 0; rmax = 0; cmin = 3; cmax = 3; deadline = 20; priority = 2 }
    ∷ record { task = 3; job = 1; rmin = 0; rmax = 0; cmin = 4; cmax = 4; deadline = 20; priority = 3 } ∷ [])
