-- The costs and the deadline of a job given anew are an edit of it.
use Rattle.std.proofs.Common.{◌≡◌, ◌≢◌, ◌∙◌, ◌<◌, ◌⊎◌, ℕ, inl, inr, ap, get_or, length, refl, set, subst, sym}
use Rattle.std.proofs.lemmas.Bool.{cases_eq}
use Rattle.std.proofs.lemmas.List.{get_or-set_other, get_or-set_same, length-set}
use Rattle.job_model.specs.declared.job_row.Job.{Job}
use Rattle.job_model.specs.Table.{Table, job_at, no_job}
use Rattle.job_model.specs.Times.{job_with_times, with_times}
use Rattle.graph_rework.specs.Edit.{HasReleaseOf}
use Rattle.graph_rework.specs.Laws.{TimesAreEdit}

-- at job e and at the others
own-times : (table : Table) (e cmin cmax deadline j : ℕ) → e < length table.jobs → (j ≡ e) ⊎ (j ≢ e) → HasReleaseOf (job_at table j) (job_at (with_times table e cmin cmax deadline) j)
own-times table e cmin cmax deadline j h (inl is) =
    let a : Job = job_with_times (job_at table e) cmin cmax deadline in
    let own : job_at (with_times table e cmin cmax deadline) j ≡ a = ap (λ n. get_or (set table.jobs e a) n no_job) is ∙ get_or-set_same table.jobs e a no_job h in
    let here : job_at table j ≡ job_at table e = ap (job_at table) is in
    subst (λ b. HasReleaseOf (job_at table j) b) (sym own) (subst (λ b. HasReleaseOf b a) (sym here)
    (record { task = refl; job = refl; rmin = refl; rmax = refl; priority = refl }))
own-times table e cmin cmax deadline j h (inr other) =
    subst (λ b. HasReleaseOf (job_at table j) b) (sym (get_or-set_other table.jobs e j (job_with_times (job_at table e) cmin cmax deadline) no_job other))
    (record { task = refl; job = refl; rmin = refl; rmax = refl; priority = refl })

pub times_are_edit : TimesAreEdit
times_are_edit table e cmin cmax deadline h = record {
  edges = refl;
  count = length-set table.jobs e (job_with_times (job_at table e) cmin cmax deadline);
  own = λ j. own-times table e cmin cmax deadline j h (cases_eq j e);
  others = λ j other. get_or-set_other table.jobs e j (job_with_times (job_at table e) cmin cmax deadline) no_job other;
}
