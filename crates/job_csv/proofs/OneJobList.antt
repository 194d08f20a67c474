-- A job is its columns, and so a text is of one list of jobs.
use Rattle.std.proofs.Common.{◌≡◌, ◌∷◌, [], ℕ, List, ap, ap₂, map, refl}
use Rattle.csv_numbers.specs.Laws.{RowsAgree}
use Rattle.job_csv.specs.Laws.{OneJobList}
use Rattle.job_model.specs.JobRow.{job_columns}
use Rattle.job_model.specs.declared.job_row.Job.{Job}

-- the job of eight columns, and of none past them
abbrev job_from : List ℕ → Job → Job
job_from (a ∷ b ∷ c ∷ d ∷ e ∷ f ∷ g ∷ h ∷ rest) other = record { task = a; job = b; rmin = c; rmax = d; cmin = e; cmax = f; deadline = g; priority = h }
job_from columns other = other

-- jobs with the same columns are the same
pub jobs-same : (jobs list : List Job) → map job_columns jobs ≡ map job_columns list → jobs ≡ list
jobs-same [] [] e = refl
jobs-same [] (b ∷ list) e = cc e
jobs-same (a ∷ jobs) [] e = cc e
jobs-same (a ∷ jobs) (b ∷ list) e =
    let head : job_columns a ≡ job_columns b = cc e in
    let tail : map job_columns jobs ≡ map job_columns list = cc e in
    let same : a ≡ b = ap (λ (columns : List ℕ). job_from columns a) head in
    ap₂ (λ (j : Job) (l : List Job). j ∷ l) same (jobs-same jobs list tail)

pub one_job_list : RowsAgree → OneJobList
one_job_list agree bytes one other reads reads' = jobs-same one other (agree bytes 8 (map job_columns one) (map job_columns other) reads reads')
