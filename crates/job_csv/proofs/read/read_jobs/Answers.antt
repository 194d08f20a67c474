use Rattle.std.proofs.Common.{◌≡◌, ◌≢◌, ◌∙◌, List, map}
use Rattle.std.proofs.lemmas.Result.{IfErr-weaker, IfOk-weaker, err_from_is_err_and}
use Rattle.csv_numbers.specs.Rows.{FirstFault}
use Rattle.csv_numbers.specs.declared.fault.CsvFault.TheVariants as fault
use Rattle.job_csv.specs.Jobs.{JobRows}
use Rattle.job_model.specs.JobRow.{job_columns}
use Rattle.job_model.specs.declared.job_row.Job.{Job}
use Rattle.job_csv.proofs.OneJobList.{jobs-same}
use Rattle.job_csv.proofs.read.read_jobs.Goals as goal

pub returns-in_err-rows-clause-refused : goal.returns-in_err-rows-clause-refused
returns-in_err-rows-clause-refused c =
    let p = err_from_is_err_and c.from_residual.result c.from_residual.ensures.1 in
    rw (p.1, p.2) (λ other list reads. c.in_err-rows.ensures.refused other (map job_columns list) reads)

pub returns-clause-rows : goal.returns-clause-rows
returns-clause-rows c =
    let bytes = c.args.bytes.now in
    IfOk-weaker c.jobs_of_rows.result (λ jobs. map job_columns jobs.items ≡ c.in_ok-rows.rows) (λ jobs. JobRows bytes jobs.items)
    (λ jobs is. rw is c.in_ok-rows.ensures.rows) c.jobs_of_rows.ensures.jobs

pub returns-clause-only : goal.returns-clause-only
returns-clause-only c =
    let bytes = c.args.bytes.now in
    IfOk-weaker c.jobs_of_rows.result (λ jobs. map job_columns jobs.items ≡ c.in_ok-rows.rows) (λ jobs. (list : List Job) → JobRows bytes list → jobs.items ≡ list)
    (λ jobs is list reads. jobs-same jobs.items list (is ∙ c.in_ok-rows.ensures.only (map job_columns list) reads)) c.jobs_of_rows.ensures.jobs

pub returns-clause-fault : goal.returns-clause-fault
returns-clause-fault c =
    IfErr-weaker c.jobs_of_rows.result (λ e. e ≡ fault.Memory) (λ e. FirstFault c.args.bytes.now 8 e) (λ e is. rw is tt) c.jobs_of_rows.ensures.memory

pub returns-clause-refused : goal.returns-clause-refused
returns-clause-refused c =
    let bytes = c.args.bytes.now in
    IfErr-weaker c.jobs_of_rows.result (λ e. e ≡ fault.Memory) (λ e. e ≢ fault.Memory → (list : List Job) → ¬ JobRows bytes list) (λ e is other. absurd (other is)) c.jobs_of_rows.ensures.memory
