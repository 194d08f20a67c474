-- The inner ends of a row lie in its span, and on one core without precedence they are its ends.
use Rattle.std.proofs.Common.{◌≡◌, ◌∙◌, ◌<◌, ◌≤◌, ℕ, Bool, true, false, List, [], Option, ap, arith, cond, length, subst}
use Rattle.std.specs.Prelude.{◌==◌, ◌&&◌, ◌%◌, nat_le}
use Rattle.std.specs.Option.{option_map_or}
use Rattle.std.proofs.lemmas.Bool.{and_from, eq-eqb, le-leb, ne_eqb}
use Rattle.std.proofs.lemmas.Option.{slice_get_within}
use Rattle.sag_time.specs.Interval.{Interval}
use Rattle.job_model.specs.declared.interval_end.End.{End}
use Rattle.job_model.specs.declared.interval_end.End.TheVariants.{Best, Worst}
use Rattle.job_model.specs.Table.{Table}
use Rattle.run_meaning.specs.Laws.{RunsExist}
use Rattle.run_meaning.specs.Legal.{Legal}
use Rattle.run_meaning.specs.Ready.{finish_of}
use Rattle.one_core.specs.Extreme.{end_of_span, extreme, own_end}
use Rattle.one_core.specs.Laws.{EndsAreAttained, IsAttained}
use Rattle.sag_graph.specs.Graph.{graph_of}
use Rattle.gap_report.specs.Trials.{best_trial, last_trial, plain_trial, worst_trial}
use Rattle.gap_trials.specs.GapMeaning.{IsGapRow}
use Rattle.gap_trials.specs.Laws.{GraphSpansHold, InnerEndsInSpans, NoGapOnOneCore, TrialsFit}
use Rattle.gap_trials.specs.Trials.{end_of_trial, has_extremes, job_of_trial, trial_of}
use Rattle.gap_trials.proofs.OneRow.{trial_runs}

pub inner_ends_in_spans : TrialsFit → RunsExist → GraphSpansHold → InnerEndsInSpans
inner_ends_in_spans fit exist hold table m j rows row is_table some are at =
    let r : IsGapRow table m j row = are.each j row at in
    let least = r.ends.lo in
    let greatest = r.ends.hi in
    let low : row.lo_trial ≤ last_trial table = omega (arith, least.among) in
    let high : row.hi_trial ≤ last_trial table = omega (arith, greatest.among) in
    let first = trial_runs fit exist table m row.lo_trial is_table some low in
    let last = trial_runs fit exist table m row.hi_trial is_table some high in
    let span : Interval = record { lo = row.bcct; hi = row.wcct } in
    let early = hold table m j span is_table some r.span (trial_of table m row.lo_trial) first.0 (fit table m row.lo_trial is_table low) first.1 in
    let late = hold table m j span is_table some r.span (trial_of table m row.hi_trial) last.0 (fit table m row.hi_trial is_table high) last.1 in
    let starts : finish_of (trial_of table m row.lo_trial) first.0 j ≡ row.inner_lo = least.attained first.0 first.1 in
    let ends : finish_of (trial_of table m row.hi_trial) last.0 j ≡ row.inner_hi = greatest.attained last.0 last.1 in
    let between = least.least row.hi_trial last.0 greatest.among last.1 in
    (omega (arith, early.0, starts), omega (arith, between, ends), omega (arith, late.1, ends))

-- the trial for an end of a job's span, on one core without precedence
module _ (table : Table) (no_edges : table.edges ≡ []) (j : ℕ) where
  alone : has_extremes table 1 ≡ true
  alone = ap (λ (es : List (ℕ × ℕ)). (1 == 1) && (length es == 0)) no_edges

  abbrev as_extreme : Bool → ℕ → ℕ → End → List (ℕ × ℕ)
  as_extreme made k i end = cond made (extreme table (graph_of table 1) i end) (plain_trial table k)

  made_for : (k : ℕ) → 4 ≤ k → (nat_le 4 k && has_extremes table 1) ≡ true
  made_for k first = and_from (nat_le 4 k) (has_extremes table 1) (le-leb 4 k first) alone

  best_is : trial_of table 1 (best_trial j) ≡ extreme table (graph_of table 1) j Best
  unfolding trial_of
  best_is =
      let k = best_trial j in
      let number : job_of_trial k ≡ j = omega arith in
      let even : (k % 2 == 0) ≡ true = eq-eqb (k % 2) 0 (omega arith) in
      ap (λ b. as_extreme b k (job_of_trial k) (end_of_trial k)) (made_for k (omega arith))
      ∙ ap (λ i. extreme table (graph_of table 1) i (end_of_trial k)) number
      ∙ ap (λ b. extreme table (graph_of table 1) j (cond b Best Worst)) even

  worst_is : trial_of table 1 (worst_trial j) ≡ extreme table (graph_of table 1) j Worst
  unfolding trial_of
  worst_is =
      let k = worst_trial j in
      let number : job_of_trial k ≡ j = omega arith in
      let odd : (k % 2 == 0) ≡ false = ne_eqb (k % 2) 0 (λ even. omega (arith, even)) in
      ap (λ b. as_extreme b k (job_of_trial k) (end_of_trial k)) (made_for k (omega arith))
      ∙ ap (λ i. extreme table (graph_of table 1) i (end_of_trial k)) number
      ∙ ap (λ b. extreme table (graph_of table 1) j (cond b Best Worst)) odd

pub no_gap_on_one_core : EndsAreAttained → InnerEndsInSpans → RunsExist → NoGapOnOneCore
no_gap_on_one_core attained inside exist table j rows row is_table no_edges are at =
    let r : IsGapRow table 1 j row = are.each j row at in
    let is_job : j < length table.jobs = omega (arith, slice_get_within rows j row at, are.one_each) in
    let within = inside table 1 j rows row is_table (omega arith) are at in
    let best : IsAttained table j Best = attained table j Best is_table no_edges is_job in
    let worst : IsAttained table j Worst = attained table j Worst is_table no_edges is_job in
    let early = exist table 1 (extreme table (graph_of table 1) j Best) is_table (omega arith) best.fits in
    let late = exist table 1 (extreme table (graph_of table 1) j Worst) is_table (omega arith) worst.fits in
    let starts : end_of_span (graph_of table 1) j Best ≡ row.bcct = ap (λ (o : Option Interval). option_map_or (own_end Best) o 0) r.span in
    let ends : end_of_span (graph_of table 1) j Worst ≡ row.wcct = ap (λ (o : Option Interval). option_map_or (own_end Worst) o 0) r.span in
    let least : row.inner_lo ≤ finish_of (extreme table (graph_of table 1) j Best) early.0 j =
    subst (λ (s : List (ℕ × ℕ)). Legal table 1 s early.0 → row.inner_lo ≤ finish_of s early.0 j) (best_is table no_edges j)
    (λ legal. r.ends.lo.least (best_trial j) early.0 (omega (arith, is_job)) legal) early.1 in
    let greatest : finish_of (extreme table (graph_of table 1) j Worst) late.0 j ≤ row.inner_hi =
    subst (λ (s : List (ℕ × ℕ)). Legal table 1 s late.0 → finish_of s late.0 j ≤ row.inner_hi) (worst_is table no_edges j)
    (λ legal. r.ends.hi.greatest (worst_trial j) late.0 (omega (arith, is_job)) legal) late.1 in
    (omega (arith, within.0, least, best.finish early.0 early.1, starts), omega (arith, within.2, greatest, worst.finish late.0 late.1, ends))
