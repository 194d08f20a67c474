-- A table whose job has other costs and another deadline is a table, with the same IDs, releases and ranks.
use Rattle.std.proofs.Common.{◌≡◌, ◌≢◌, ℕ, zero, suc, ◌<◌, List, [], ◌∷◌, ◌⊎◌, inl, inr, length, map, set, get_or, refl, ap, sym, ◌∙◌, subst, arith}
use Rattle.std.specs.List.{All, count_by}
use Rattle.std.proofs.Math.Path.{fun_ext}
use Rattle.std.proofs.Math.Seq.{map-set_same}
use Rattle.std.proofs.lemmas.Bool.{cases_eq}
use Rattle.std.proofs.lemmas.Grind.{get_or-set_at}
use Rattle.std.proofs.lemmas.List.{length-set, get_or-set_other}
use Rattle.std.proofs.lemmas.List.Elements.{All-set}
use Rattle.job_model.specs.declared.job_row.Job.{Job}
use Rattle.lists.specs.Numbers.{numbers_below}
use Rattle.job_model.specs.Ranks.{AreRanks, rank_of}
use Rattle.job_model.specs.Releases.{release_order}
use Rattle.job_model.specs.Table.{Table, IsTable, IsJob, job_at, has_urgency_over, id_of, no_job}
use Rattle.job_model.specs.Times.{MayCost, job_with_times, with_times}
use Rattle.job_model.proofs.ReleaseLemmas.{release_order-same}

-- what other costs and another deadline leave of a job
record Keeps (a b : Job) : Type 0 where
  task : b.task ≡ a.task
  job : b.job ≡ a.job
  rmin : b.rmin ≡ a.rmin
  rmax : b.rmax ≡ a.rmax
  priority : b.priority ≡ a.priority

same-default : (xs : List Job) (i : ℕ) (d f : Job) → i < length xs → get_or xs i d ≡ get_or xs i f
same-default [] i d f h = absurd (omega arith)
same-default (x ∷ xs) i d f h = elim i as (λ i. i < length (x ∷ xs) → get_or (x ∷ xs) i d ≡ get_or (x ∷ xs) i f) [
  | zero ↦ λ h. refl
  | suc n ↦ λ h. same-default xs n d f (omega (arith, h))
] h

module _ (table : Table) (j cmin cmax deadline : ℕ) (is_job : j < length table.jobs) where
  abbrev changed : Job
  changed = job_with_times (job_at table j) cmin cmax deadline

  abbrev after : Table
  after = with_times table j cmin cmax deadline

  keeps-by : (i : ℕ) (d : Job) → (i ≡ j) ⊎ (i ≢ j) → Keeps (get_or table.jobs i d) (get_or after.jobs i d)
  keeps-by i d (inl is) =
      let own : get_or after.jobs i d ≡ changed = get_or-set_at table.jobs j i changed d is is_job in
      let here : get_or table.jobs i d ≡ job_at table j = same-default table.jobs i d no_job (omega (arith, is, is_job)) ∙ ap (λ n. get_or table.jobs n no_job) is in
      subst (λ b. Keeps (get_or table.jobs i d) b) (sym own) (subst (λ a. Keeps a changed) (sym here) (record { task = refl; job = refl; rmin = refl; rmax = refl; priority = refl }))
  keeps-by i d (inr other) =
      subst (λ b. Keeps (get_or table.jobs i d) b) (sym (get_or-set_other table.jobs j i changed d other)) (record { task = refl; job = refl; rmin = refl; rmax = refl; priority = refl })

  keeps : (i : ℕ) (d : Job) → Keeps (get_or table.jobs i d) (get_or after.jobs i d)
  keeps i d = keeps-by i d (cases_eq i j)

  pub long : length after.jobs ≡ length table.jobs
  long = length-set table.jobs j changed

  pub IsTable-retimed : IsTable table → IsJob changed → IsTable after
  IsTable-retimed t job = record {
    few_jobs = omega (arith, long, t.few_jobs);
    jobs = All-set IsJob table.jobs j changed job t.jobs;
    ids_differ = λ p q d less within same.
        let inside : q < length table.jobs = omega (arith, within, long) in
        let one = keeps p d in
        let other = keeps q d in
        t.ids_differ p q d less inside (sym one.task ∙ same.0 ∙ other.task, sym one.job ∙ same.1 ∙ other.job);
    few_edges = t.few_edges;
    edges_rise = t.edges_rise;
    edges_in_range = subst (λ n. All (λ (e : ℕ × ℕ). (e.0 < n) × (e.1 < n)) table.edges) (sym long) t.edges_in_range;
    no_cycle = t.no_cycle;
  }

  pub ids-retimed : map id_of after.jobs ≡ map id_of table.jobs
  ids-retimed = map-set_same id_of table.jobs j changed no_job refl

  pub release_order-retimed : release_order after ≡ release_order table
  release_order-retimed = release_order-same after table long (λ i. (keeps i no_job).rmin)

  urgency : (a b : ℕ) → has_urgency_over after a b ≡ has_urgency_over table a b
  urgency a b =
      let one = keeps a no_job in
      let other = keeps b no_job in
      simp (one.priority, one.task, one.job, other.priority, other.task, other.job)

  rank-same : (k : ℕ) → rank_of after k ≡ rank_of table k
  rank-same k =
      ap (λ f. count_by f (numbers_below (length after.jobs))) (fun_ext (λ i. urgency i k))
      ∙ ap (λ n. count_by (λ i. has_urgency_over table i k) (numbers_below n)) long

  pub AreRanks-retimed : (ranks : List ℕ) → AreRanks table ranks → AreRanks after ranks
  AreRanks-retimed ranks h = record { one_each = h.one_each ∙ sym long; own = λ k less. h.own k (omega (arith, less, long)) ∙ sym (rank-same k) }

  own_job : IsTable table → MayCost cmin cmax → IsJob changed
  own_job t may =
      let own : IsJob (job_at table j) = t.jobs j no_job is_job in
      record { releases = own.releases; arrival_limit = own.arrival_limit; costs_something = may.costs_something; costs = may.costs; cost_limit = may.cost_limit }

  -- what the type keeps, with the job as an index gives it
  pub kept : (x : Job) (ids : List (ℕ × ℕ)) (order : List (ℕ × ℕ)) (ranks : List ℕ) → x ≡ get_or table.jobs j x → IsTable table → ids ≡ map id_of table.jobs → order ≡ release_order table →
      AreRanks table ranks → MayCost cmin cmax →
      IsTable (record { jobs = set table.jobs j (job_with_times x cmin cmax deadline); edges = table.edges })
      × (ids ≡ map id_of (set table.jobs j (job_with_times x cmin cmax deadline)))
      × (order ≡ release_order (record { jobs = set table.jobs j (job_with_times x cmin cmax deadline); edges = table.edges }))
      × AreRanks (record { jobs = set table.jobs j (job_with_times x cmin cmax deadline); edges = table.edges }) ranks
  kept x ids order ranks is t are o r may =
      let same : job_with_times x cmin cmax deadline ≡ changed = ap (λ a. job_with_times a cmin cmax deadline) (is ∙ same-default table.jobs j x no_job is_job) in (
        subst (λ a. IsTable (record { jobs = set table.jobs j a; edges = table.edges })) (sym same) (IsTable-retimed t (own_job t may)),
        subst (λ a. ids ≡ map id_of (set table.jobs j a)) (sym same) (are ∙ sym ids-retimed),
        subst (λ a. order ≡ release_order (record { jobs = set table.jobs j a; edges = table.edges })) (sym same) (o ∙ sym release_order-retimed),
        subst (λ a. AreRanks (record { jobs = set table.jobs j a; edges = table.edges }) ranks) (sym same) (AreRanks-retimed ranks r),
      )
