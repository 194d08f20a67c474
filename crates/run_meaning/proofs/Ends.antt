-- When the jobs of a legal schedule finish at the latest.
use Rattle.std.proofs.Common.{◌≡◌, ℕ, ◌+◌, ◌*◌, ◌<◌, ◌≤◌, ◌⊎◌, inl, inr, true, false, List, length, get_or, sym, ap, ◌∙◌, arith}
use Rattle.std.proofs.Math.Nat.{mul-le-mul_right}
use Rattle.std.proofs.lemmas.Bool.{cases_lt, cases_order}
use Rattle.std.proofs.lemmas.List.{get_or_default}
use Rattle.job_model.specs.declared.limits.TheConstants.{MOST_ARRIVAL, MOST_COST, MOST_JOBS}
use Rattle.job_model.specs.Table.{Table, IsTable, no_job, predecessors}
use Rattle.job_model.specs.Scenario.{Fits, release_of}
use Rattle.run_meaning.specs.declared.places.Place.{Place}
use Rattle.run_meaning.specs.Ready.{start_of, finish_of, ready_time}
use Rattle.run_meaning.specs.Legal.{Legal, IsBusy}
use Rattle.run_meaning.specs.Order.{dispatch_order, starts_earlier}
use Rattle.run_meaning.specs.Laws.{RunsEnd}
use Rattle.run_meaning.proofs.OrderLaws.{length-dispatch_order}
use Rattle.run_meaning.proofs.OrderMembers.{Placed, placed}
use Rattle.run_meaning.proofs.Sorted.{dispatch_below, dispatch_sorted, earlier-start, earlier_one_way, predecessors_come_earlier}
use Rattle.lists.proofs.Elements.{recursion_at}
use Rattle.run_meaning.proofs.StartsAgree.{by_lesser, predecessors_below, ready_by}
use Rattle.lists.proofs.Orderings.{true≢false}

-- the latest finish of the first k jobs
abbrev pub end_limit : ℕ → ℕ
end_limit k = MOST_ARRIVAL + k * MOST_COST

end_limit-grows : (k n : ℕ) → k ≤ n → end_limit k ≤ end_limit n
end_limit-grows k n h = omega (arith, mul-le-mul_right MOST_COST h)

module _ (table : Table) (m : ℕ) (scenario : List (ℕ × ℕ)) (schedule : List Place)
    (is_table : IsTable table) (fits : Fits table scenario) (legal : Legal table m scenario schedule) where
  abbrev nth : ℕ → ℕ
  nth k = get_or (dispatch_order table schedule) k 0

  nth_below : (k : ℕ) → k < length table.jobs → nth k < length table.jobs
  nth_below k below = recursion_at (λ j. j < length table.jobs) (dispatch_order table schedule) k 0 (dispatch_below table schedule) (omega (arith, below, length-dispatch_order table schedule))

  abbrev EndsBy : ℕ → Type 0
  EndsBy k = k < length table.jobs → finish_of scenario schedule (nth k) ≤ end_limit (k + 1)

  module _ (k : ℕ) (before : (p : ℕ) → p < k → EndsBy p) (below : k < length table.jobs) where
    -- what is dispatched before the next job finishes by this limit
    ended : (i : ℕ) → i < length table.jobs → starts_earlier table schedule i (nth k) ≡ true → finish_of scenario schedule i ≤ end_limit k
    ended i is_job earlier = by (placed table schedule i is_job) (cases_order (placed table schedule i is_job).at k)
      where
        by : (p : Placed table schedule i) → (p.at ≡ k) ⊎ ((p.at < k) ⊎ (k < p.at)) → finish_of scenario schedule i ≤ end_limit k
        by p (inl same) =
            let one : nth k ≡ i = sym (ap nth same) ∙ p.is in
            absurd (true≢false (sym earlier ∙ earlier_one_way table schedule (nth k) i (rw one (rw one at earlier))))
        by p (inr (inl less)) = omega (arith, ap (finish_of scenario schedule) p.is, before p.at less p.below, end_limit-grows (p.at + 1) k (omega (arith, less)))
        by p (inr (inr more)) =
            let later : starts_earlier table schedule (nth k) i ≡ true = rw p.is at (dispatch_sorted table schedule is_table k p.at 0 more p.below) in
            absurd (true≢false (sym earlier ∙ earlier_one_way table schedule (nth k) i later))

    -- so a job that starts later would be ready then, with an idle core
    not_late : end_limit k < start_of schedule (nth k) → ⊥
    not_late late =
        let j = nth k in
        let is_job : j < length table.jobs = nth_below k below in
        let released : release_of scenario j ≤ end_limit k = omega (arith, (fits.each j is_job).not_after, (is_table.jobs j no_job is_job).arrival_limit) in
        let ready : ready_time table scenario schedule j ≤ end_limit k = ready_by table scenario is_table fits schedule j (end_limit k) released finished in
        let core : 0 < m = omega (arith, legal.on_cores j is_job) in
        runs ((legal.held_back j (end_limit k) is_job ready late).all_busy 0 core)
      where
        finished : (p : ℕ) → p < length (predecessors table (nth k)) → finish_of scenario schedule (get_or (predecessors table (nth k)) p 0) ≤ end_limit k
        finished p there =
            let i = get_or (predecessors table (nth k)) p 0 in
            ended i (predecessors_below table scenario is_table fits (nth k) p 0 there)
            (predecessors_come_earlier table m scenario schedule is_table fits legal i (nth k) (nth_below k below) (p, there, get_or_default (predecessors table (nth k)) p i 0 there))

        runs : IsBusy table scenario schedule 0 (end_limit k) → ⊥
        runs busy = omega (arith, busy.running.1, ended busy.by busy.is_job (earlier-start table schedule busy.by (nth k) (omega (arith, busy.running.0, late))))

    ends : finish_of scenario schedule (nth k) ≤ end_limit (k + 1)
    ends = by (cases_lt (end_limit k) (start_of schedule (nth k)))
      where
        by : (end_limit k < start_of schedule (nth k)) ⊎ (start_of schedule (nth k) ≤ end_limit k) → finish_of scenario schedule (nth k) ≤ end_limit (k + 1)
        by (inl late) = absurd (not_late late)
        by (inr early) =
            let is_job = nth_below k below in
            omega (arith, early, (fits.each (nth k) is_job).at_most, (is_table.jobs (nth k) no_job is_job).cost_limit)

  ends_by : (k : ℕ) → EndsBy k
  ends_by = by_lesser EndsBy (λ k before below. ends k before below)

  -- each job has finished by then
  pub run_ends : (j : ℕ) → j < length table.jobs → finish_of scenario schedule j ≤ end_limit MOST_JOBS
  run_ends j is_job =
      let p = placed table schedule j is_job in
      omega (arith, ap (finish_of scenario schedule) p.is, ends_by p.at p.below, end_limit-grows (p.at + 1) MOST_JOBS (omega (arith, p.below, is_table.few_jobs)))

pub runs_end : RunsEnd
runs_end = run_ends
