-- A table is one with its edits.
use Rattle.std.proofs.Common.{◌≡◌, ◌≢◌, ◌∙◌, ◌<◌, ◌⊎◌, ℕ, zero, suc, inl, inr, List, [], ◌∷◌, ap, arith, get_or, length, refl, set, subst, sym}
use Rattle.std.specs.List.{All}
use Rattle.std.proofs.lemmas.Bool.{cases_eq}
use Rattle.std.proofs.lemmas.List.{get_or-set_other, get_or-set_same, length-set}
use Rattle.std.proofs.lemmas.List.Elements.{All-set}
use Rattle.job_model.specs.declared.job_row.Job.{Job}
use Rattle.job_model.specs.Table.{IsJob, IsTable, Table, job_at, no_job}
use Rattle.job_model.specs.Times.{MayCost, job_with_times}
use Rattle.side_csv.specs.declared.edits.JobEdit.{JobEdit}
use Rattle.what_if.specs.Edits.{with_edit}
use Rattle.what_if.specs.Laws.{EditsKeepTables}

-- an edit leaves the IDs of a job
record KeepsIds (a b : Job) : Type 0 where
  task : b.task ≡ a.task
  job : b.job ≡ a.job

-- which job is read past the end does not matter before it
any_default : (xs : List Job) (i : ℕ) (d f : Job) → i < length xs → get_or xs i d ≡ get_or xs i f
any_default [] i d f h = absurd (omega arith)
any_default (x ∷ xs) zero d f h = refl
any_default (x ∷ xs) (suc i) d f h = any_default xs i d f (omega arith)

module _ (table : Table) (e : JobEdit) (is_job : e.job < length table.jobs) where
  abbrev edited : Job
  edited = job_with_times (job_at table e.job) e.cmin e.cmax e.deadline

  long : length (with_edit table e).jobs ≡ length table.jobs
  long = length-set table.jobs e.job edited

  keeps_by : (i : ℕ) (d : Job) → (i ≡ e.job) ⊎ (i ≢ e.job) → KeepsIds (get_or table.jobs i d) (get_or (set table.jobs e.job edited) i d)
  keeps_by i d (inl is) =
      let own : get_or (set table.jobs e.job edited) i d ≡ edited = ap (λ n. get_or (set table.jobs e.job edited) n d) is ∙ get_or-set_same table.jobs e.job edited d is_job in
      let here : get_or table.jobs i d ≡ job_at table e.job = ap (λ n. get_or table.jobs n d) is ∙ any_default table.jobs e.job d no_job is_job in
      subst (λ b. KeepsIds (get_or table.jobs i d) b) (sym own) (subst (λ a. KeepsIds a edited) (sym here) (record { task = refl; job = refl }))
  keeps_by i d (inr other) =
      subst (λ b. KeepsIds (get_or table.jobs i d) b) (sym (get_or-set_other table.jobs e.job i edited d other)) (record { task = refl; job = refl })

  keeps : (i : ℕ) (d : Job) → KeepsIds (get_or table.jobs i d) (get_or (set table.jobs e.job edited) i d)
  keeps i d = keeps_by i d (cases_eq i e.job)

  own_job : IsTable table → MayCost e.cmin e.cmax → IsJob edited
  own_job t may =
      let own : IsJob (job_at table e.job) = t.jobs e.job no_job is_job in
      record { releases = own.releases; arrival_limit = own.arrival_limit; costs_something = may.costs_something; costs = may.costs; cost_limit = may.cost_limit }

  is_edited : IsTable table → MayCost e.cmin e.cmax → IsTable (with_edit table e)
  is_edited t may = record {
    few_jobs = omega (arith, long, t.few_jobs);
    jobs = All-set IsJob table.jobs e.job edited (own_job t may) t.jobs;
    ids_differ = λ p q d less within same.
        let inside : q < length table.jobs = omega (arith, within, long) in
        let one = keeps p d in
        let other = keeps q d in
        t.ids_differ p q d less inside (sym one.task ∙ same.0 ∙ other.task, sym one.job ∙ same.1 ∙ other.job);
    few_edges = t.few_edges;
    edges_rise = t.edges_rise;
    edges_in_range = subst (λ n. All (λ (edge : ℕ × ℕ). (edge.0 < n) × (edge.1 < n)) table.edges) (sym long) t.edges_in_range;
    no_cycle = t.no_cycle;
  }

pub edits_keep_tables : EditsKeepTables
edits_keep_tables table [] is_table in_range costs = is_table
edits_keep_tables table (e ∷ edits) is_table in_range costs =
    let here : e.job < length table.jobs = in_range 0 e (omega arith) in
    let long : length (with_edit table e).jobs ≡ length table.jobs = length-set table.jobs e.job (job_with_times (job_at table e.job) e.cmin e.cmax e.deadline) in
    edits_keep_tables (with_edit table e) edits (is_edited table e here is_table (costs 0 e (omega arith)))
    (λ k d below. let later = in_range (suc k) d (omega (arith, below)) in omega (arith, later, long))
    (λ k d below. costs (suc k) d (omega (arith, below)))
