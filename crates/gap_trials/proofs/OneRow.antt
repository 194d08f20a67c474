-- A table on some cores has one list of rows.
use Rattle.std.proofs.Common.{◌≡◌, ◌∙◌, ◌+◌, ◌<◌, ◌≤◌, ℕ, List, ap, arith, inl, inr, sym}
use Rattle.std.proofs.lemmas.Bool.{cases_lt}
use Rattle.std.proofs.lemmas.Option.{same_Some}
use Rattle.sag_time.specs.Interval.{Interval}
use Rattle.job_model.specs.Table.{IsTable, Table}
use Rattle.run_meaning.specs.declared.places.Place.{Place}
use Rattle.run_meaning.specs.Laws.{RunsExist}
use Rattle.run_meaning.specs.Legal.{Legal}
use Rattle.gap_report.specs.declared.gap_row.GapRow.{GapRow}
use Rattle.gap_report.specs.InnerEnds.{IsGreatestFinish, IsLeastFinish}
use Rattle.gap_report.specs.Trials.{last_trial}
use Rattle.gap_trials.specs.GapMeaning.{IsGapRow}
use Rattle.gap_trials.specs.Laws.{OneGap, TrialsFit}
use Rattle.gap_trials.specs.Trials.{trial_of}
use Rattle.gap_trials.proofs.ListFacts.{same-items}

-- each trial has a legal schedule
pub trial_runs : TrialsFit → RunsExist → (table : Table) (m k : ℕ) → IsTable table → 1 ≤ m → k ≤ last_trial table →
    (schedule : List Place) × Legal table m (trial_of table m k) schedule
trial_runs fit exist table m k is_table some last =
    let run = exist table m (trial_of table m k) is_table (omega (arith, some)) (fit table m k is_table last) in
    (run.0, run.1)

module _ (table : Table) (m : ℕ) (trials : ℕ → List (ℕ × ℕ)) (count j : ℕ) (runs : (k : ℕ) → k < count → (schedule : List Place) × Legal table m (trials k) schedule) where
  least_below : (t p u q : ℕ) → IsLeastFinish table m trials count j t p → IsLeastFinish table m trials count j u q → t ≤ u
  least_below t p u q one other =
      let run = runs q other.among in
      omega (arith, one.least q run.0 other.among run.1, other.attained run.0 run.1)

  least_first : (t p u q : ℕ) → IsLeastFinish table m trials count j t p → IsLeastFinish table m trials count j u q → p ≤ q
  least_first t p u q one other = elim (cases_lt q p) [
    | inl sooner ↦
        let run = runs q other.among in
        absurd (omega (arith, one.first q run.0 sooner run.1, other.attained run.0 run.1, least_below u q t p other one))
    | inr later ↦ later
  ]

  greatest_above : (t p u q : ℕ) → IsGreatestFinish table m trials count j t p → IsGreatestFinish table m trials count j u q → u ≤ t
  greatest_above t p u q one other =
      let run = runs q other.among in
      omega (arith, one.greatest q run.0 other.among run.1, other.attained run.0 run.1)

  greatest_first : (t p u q : ℕ) → IsGreatestFinish table m trials count j t p → IsGreatestFinish table m trials count j u q → p ≤ q
  greatest_first t p u q one other = elim (cases_lt q p) [
    | inl sooner ↦
        let run = runs q other.among in
        absurd (omega (arith, one.first q run.0 sooner run.1, other.attained run.0 run.1, greatest_above u q t p other one))
    | inr later ↦ later
  ]

module _ (fit : TrialsFit) (exist : RunsExist) (table : Table) (m : ℕ) (is_table : IsTable table) (some : 1 ≤ m) where
  runs : (k : ℕ) → k < last_trial table + 1 → (schedule : List Place) × Legal table m (trial_of table m k) schedule
  runs k within = trial_runs fit exist table m k is_table some (omega (arith, within))

  one_row : (j : ℕ) (one other : GapRow) → IsGapRow table m j one → IsGapRow table m j other → one ≡ other
  one_row j one other a b =
      let count = last_trial table + 1 in
      let span : ◌≡◌ {A = Interval} (record { lo = one.bcct; hi = one.wcct }) (record { lo = other.bcct; hi = other.wcct }) =
      same_Some (record { lo = one.bcct; hi = one.wcct }) (record { lo = other.bcct; hi = other.wcct }) (sym a.span ∙ b.span) in
      let below = least_below table m (trial_of table m) count j runs in
      let first = least_first table m (trial_of table m) count j runs in
      let above = greatest_above table m (trial_of table m) count j runs in
      let last = greatest_first table m (trial_of table m) count j runs in
      let task : one.task ≡ other.task = a.task ∙ sym b.task in
      let job : one.job ≡ other.job = a.job ∙ sym b.job in
      let bcct : one.bcct ≡ other.bcct = ap (λ (s : Interval). s.lo) span in
      let wcct : one.wcct ≡ other.wcct = ap (λ (s : Interval). s.hi) span in
      let lo : one.inner_lo ≡ other.inner_lo =
      omega (arith, below one.inner_lo one.lo_trial other.inner_lo other.lo_trial a.ends.lo b.ends.lo, below other.inner_lo other.lo_trial one.inner_lo one.lo_trial b.ends.lo a.ends.lo) in
      let lo_trial : one.lo_trial ≡ other.lo_trial =
      omega (arith, first one.inner_lo one.lo_trial other.inner_lo other.lo_trial a.ends.lo b.ends.lo, first other.inner_lo other.lo_trial one.inner_lo one.lo_trial b.ends.lo a.ends.lo) in
      let hi : one.inner_hi ≡ other.inner_hi =
      omega (arith, above one.inner_hi one.hi_trial other.inner_hi other.hi_trial a.ends.hi b.ends.hi, above other.inner_hi other.hi_trial one.inner_hi one.hi_trial b.ends.hi a.ends.hi) in
      let hi_trial : one.hi_trial ≡ other.hi_trial =
      omega (arith, last one.inner_hi one.hi_trial other.inner_hi other.hi_trial a.ends.hi b.ends.hi, last other.inner_hi other.hi_trial one.inner_hi one.hi_trial b.ends.hi a.ends.hi) in
      λ i. record {
        task = task i;
        job = job i;
        bcct = bcct i;
        inner_lo = lo i;
        lo_trial = lo_trial i;
        inner_hi = hi i;
        hi_trial = hi_trial i;
        wcct = wcct i;
      }

pub one_gap : TrialsFit → RunsExist → OneGap
one_gap fit exist table m one other is_table some a b =
    same-items one other (a.one_each ∙ sym b.one_each) (λ j row row' at at'. one_row fit exist table m is_table some j row row' (a.each j row at) (b.each j row' at'))
