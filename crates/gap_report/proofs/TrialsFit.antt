-- The trials that need no graph fit.
use Rattle.std.proofs.Common.{◌≡◌, ℕ, Bool, true, false, arith, cond, get_or, length, subst, sym}
use Rattle.std.specs.Prelude.{◌==◌, ◌%◌, ◌||◌}
use Rattle.std.proofs.lemmas.List.FromFn.{get_or-map-range_with_len, length-map-range_with_len}
use Rattle.std.proofs.lemmas.List.Elements.{All-get_or}
use Rattle.job_model.specs.declared.job_row.Job.{Job}
use Rattle.job_model.specs.Scenario.{CanRunAs}
use Rattle.job_model.specs.Table.{IsJob, job_at, no_job}
use Rattle.gap_report.specs.Laws.{PlainTrialsFit}
use Rattle.gap_report.specs.Trials.{best_trial, plain_row, plain_trial, worst_trial}

-- a release and a cost at ends of the job's intervals
ends_run : (a : Job) → IsJob a → (b c d : Bool) →
    let row : ℕ × ℕ = cond {A = ℕ × ℕ} b (a.rmin, a.cmin) (cond {A = ℕ × ℕ} c (a.rmax, a.cmax) (cond {A = ℕ × ℕ} d (a.rmax, a.cmin) (a.rmin, a.cmax))) in CanRunAs a row.0 row.1
ends_run a is true c d = record { not_before = omega arith; not_after = is.releases; at_least = omega arith; at_most = is.costs }
ends_run a is false true d = record { not_before = is.releases; not_after = omega arith; at_least = is.costs; at_most = omega arith }
ends_run a is false false true = record { not_before = is.releases; not_after = omega arith; at_least = omega arith; at_most = is.costs }
ends_run a is false false false = record { not_before = omega arith; not_after = is.releases; at_least = is.costs; at_most = omega arith }

plain_can_run : (a : Job) (j k : ℕ) → IsJob a → CanRunAs a (plain_row a j k).0 (plain_row a j k).1
unfolding plain_row
plain_can_run a j k is = ends_run a is ((k == 0) || (k == best_trial j)) ((k == 3) || (k == worst_trial j)) (k % 2 == 0)

pub plain_trials_fit : PlainTrialsFit
plain_trials_fit table k is_table = record {
  one_each = length-map-range_with_len (λ j. plain_row (job_at table j) j k) 0 (length table.jobs);
  each = λ j below.
      let row : ◌≡◌ {A = ℕ × ℕ} (get_or (plain_trial table k) j (0, 0)) (plain_row (job_at table j) j k) =
      get_or-map-range_with_len (λ i. plain_row (job_at table i) i k) 0 (length table.jobs) j j (0, 0) below (omega arith) in
      subst (λ (r : ℕ × ℕ). CanRunAs (job_at table j) r.0 r.1) (sym row) (plain_can_run (job_at table j) j k (All-get_or IsJob table.jobs j no_job below is_table.jobs));
}
