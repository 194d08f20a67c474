-- Files of edits: a row for each edit, in their order, which names a job and has its costs and its deadline anew.
--     cmin_in row, cmax_in row, deadline_in row    the columns of a row
--     GivesEdit table row edit                     the row names the job of this edit, and has its costs and its deadline
--     EditsText table bytes edits                  the rows of the file give these edits, in their order
use Rattle.std.specs.Prelude.{◌≡◌, ℕ, List, slice_index}
use Rattle.std.specs.List.{AllZip}
use Rattle.csv_numbers.specs.Rows.{Rows}
use Rattle.job_model.specs.Table.{Table}
use Rattle.job_model.specs.Times.{MayCost}
use Rattle.side_csv.specs.RowPerJob.{NamesJob}
use Rattle.side_csv.specs.declared.edits.JobEdit.{JobEdit}

abbrev pub cmin_in : List ℕ → ℕ
cmin_in row = slice_index row 2

abbrev pub cmax_in : List ℕ → ℕ
cmax_in row = slice_index row 3

abbrev pub deadline_in : List ℕ → ℕ
deadline_in row = slice_index row 4

-- the row names the job of this edit, and has costs that a job may have and a deadline, which are those of the edit
pub record GivesEdit (table : Table) (row : List ℕ) (edit : JobEdit) : Type 0 where
  pub names : NamesJob table row edit.job
  pub may_cost : MayCost (cmin_in row) (cmax_in row)
  pub cmin_is : cmin_in row ≡ edit.cmin
  pub cmax_is : cmax_in row ≡ edit.cmax
  pub deadline_is : deadline_in row ≡ edit.deadline

-- Each row of the file gives one edit, and these are the edits in the order of the rows.
pub record EditsText (table : Table) (bytes : List ℕ) (edits : List JobEdit) : Type 0 where
  pub rows : List (List ℕ)
  pub rows_are : Rows bytes 5 rows
  pub edits_are : AllZip (GivesEdit table) rows edits
