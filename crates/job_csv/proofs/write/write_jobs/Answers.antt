use Rattle.std.proofs.Common.{◌≡◌, ◌∙◌, List, ℕ, ap, arith, map}
use Rattle.std.proofs.lemmas.List.{take_all}
use Rattle.job_model.specs.JobRow.{job_columns}
use Rattle.job_csv.proofs.write.write_jobs.Goals as goal

pub returns-clause-text : goal.returns-clause-text
returns-clause-text c =
    let jobs = c.args.table.now.jobs in
    let rows : List (List ℕ) = c.deref.result.now in
    let all : rows ≡ map job_columns jobs =
    c.deref.ensures.value ∙ c.loop-no.invariant ∙ ap (map job_columns) (take_all c.loop-no.no jobs (omega (arith, c.len-count.ensures.count))) in
    rw all at c.write_table.ensures.text
