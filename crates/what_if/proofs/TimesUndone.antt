-- With its old costs and its old deadline again, a table is as it was.
use Rattle.std.proofs.Common.{◌≡◌, ◌∙◌, List, ap, get_or, set}
use Rattle.std.proofs.lemmas.List.{get_or-set_same, set-get_or, set-set}
use Rattle.job_model.specs.declared.job_row.Job.{Job}
use Rattle.job_model.specs.Table.{job_at, no_job}
use Rattle.job_model.specs.Times.{job_with_times}
use Rattle.what_if.specs.Laws.{TimesAreUndone}

pub times_are_undone : TimesAreUndone
times_are_undone table j cmin cmax deadline within =
    let a : Job = job_at table j in
    let b : Job = job_with_times a cmin cmax deadline in
    let jobs : List Job = set table.jobs j b in
    let again : Job → List Job = λ x. set jobs j (job_with_times x a.cmin a.cmax a.deadline) in
    let own : get_or jobs j no_job ≡ b = get_or-set_same table.jobs j b no_job within in
    let all : again (get_or jobs j no_job) ≡ table.jobs = ap again own ∙ set-set table.jobs j b a ∙ set-get_or table.jobs j no_job in
    ap (λ (xs : List Job). record table { jobs = xs }) all
