-- Each trial fits its table.
use Rattle.std.proofs.Common.{◌≡◌, ◌<◌, ◌≤◌, ℕ, true, false, List, [], ap, arith, cond, inl, inr, length, subst, sym}
use Rattle.std.specs.Prelude.{◌==◌, nat_le}
use Rattle.std.proofs.lemmas.Bool.{and_parts, cases_Bool, eqb-true, leb-true}
use Rattle.job_model.specs.Scenario.{Fits}
use Rattle.job_model.specs.Table.{Table}
use Rattle.one_core.specs.Extreme.{extreme}
use Rattle.one_core.specs.Laws.{EndsAreAttained, IsAttained}
use Rattle.sag_graph.specs.Graph.{graph_of}
use Rattle.gap_report.specs.Laws.{PlainTrialsFit}
use Rattle.gap_report.specs.Trials.{last_trial, plain_trial}
use Rattle.gap_trials.specs.Laws.{TrialsFit}
use Rattle.gap_trials.specs.Trials.{end_of_trial, has_extremes, is_extreme_trial, job_of_trial, trial_of}
use Rattle.gap_trials.proofs.ListFacts.{no-items}

-- one core without precedence
pub no_edges : (table : Table) (m : ℕ) → has_extremes table m ≡ true → table.edges ≡ []
no_edges table m has = no-items table.edges (eqb-true (length table.edges) 0 (and_parts (m == 1) (length table.edges == 0) has).1)

pub one_core_is : (table : Table) (m : ℕ) → has_extremes table m ≡ true → m ≡ 1
one_core_is table m has = eqb-true m 1 (and_parts (m == 1) (length table.edges == 0) has).0

-- a trial that is made for a job is made for one of the table
pub for_a_job : (table : Table) (k : ℕ) → 4 ≤ k → k ≤ last_trial table → job_of_trial k < length table.jobs
for_a_job table k first last = omega (arith, first, last)

pub trials_fit : EndsAreAttained → PlainTrialsFit → TrialsFit
unfolding trial_of
trials_fit attained plain table m k is_table last =
    let walk : List (ℕ × ℕ) = extreme table (graph_of table 1) (job_of_trial k) (end_of_trial k) in
    elim (cases_Bool (is_extreme_trial table m k)) [
      | inl has ↦
          let parts = and_parts (nat_le 4 k) (has_extremes table m) has in
          let at : IsAttained table (job_of_trial k) (end_of_trial k) =
          attained table (job_of_trial k) (end_of_trial k) is_table (no_edges table m parts.1) (for_a_job table k (leb-true 4 k parts.0) last) in
          subst (λ b. Fits table (cond b walk (plain_trial table k))) (sym has) at.fits
      | inr none ↦ subst (λ b. Fits table (cond b walk (plain_trial table k))) (sym none) (plain table k is_table)
    ]

-- which of the two a trial is
pub is_the_extreme : (table : Table) (m k : ℕ) → is_extreme_trial table m k ≡ true → extreme table (graph_of table 1) (job_of_trial k) (end_of_trial k) ≡ trial_of table m k
unfolding trial_of
is_the_extreme table m k has =
    ap (λ b. cond b (extreme table (graph_of table 1) (job_of_trial k) (end_of_trial k)) (plain_trial table k)) (sym has)

pub is_the_plain : (table : Table) (m k : ℕ) → is_extreme_trial table m k ≡ false → plain_trial table k ≡ trial_of table m k
unfolding trial_of
is_the_plain table m k none = ap (λ b. cond b (extreme table (graph_of table 1) (job_of_trial k) (end_of_trial k)) (plain_trial table k)) (sym none)
