-- Laws of edits.
--     TimesAreUndone      with the old costs and the old deadline again, the table is as it was
--     EditsKeepTables     a table is one with its edits, where they are of its jobs, with costs that a job may have
use Rattle.std.specs.Prelude.{ℕ, ◌≡◌, ◌<◌, All, List, length}
use Rattle.job_model.specs.Table.{IsTable, Table, job_at}
use Rattle.job_model.specs.Times.{MayCost, with_times}
use Rattle.side_csv.specs.declared.edits.JobEdit.{JobEdit}
use Rattle.what_if.specs.Edits.{with_edits}

-- With the old costs and the old deadline again, the table is as it was.
abbrev pub TimesAreUndone : Type 0
TimesAreUndone =
    (table : Table) (j cmin cmax deadline : ℕ) → j < length table.jobs
    → with_times (with_times table j cmin cmax deadline) j (job_at table j).cmin (job_at table j).cmax (job_at table j).deadline ≡ table

-- A table is one with its edits, where they are of its jobs, with costs that a job may have.
abbrev pub EditsKeepTables : Type 0
EditsKeepTables = (table : Table) (edits : List JobEdit) → IsTable table
    → All (λ e. e.job < length table.jobs) edits → All (λ e. MayCost e.cmin e.cmax) edits → IsTable (with_edits table edits)
