use Rattle.std.proofs.Common.{◌≡◌, ◌++◌, ◌∷◌, [], ◌∙◌, ℕ, List, ap, arith, map, subst, sym}
use Rattle.std.specs.List.{range_with_len}
use Rattle.std.proofs.lemmas.List.FromFn.{map-range_with_len_more}
use Rattle.job_model.specs.declared.job_row.Job.{Job}
use Rattle.job_model.specs.Scenario.{Fits}
use Rattle.job_model.specs.Table.{job_at}
use Rattle.gap_report.specs.Trials.{plain_row, plain_trial}
use Rattle.gap_report.proofs.TrialsFit.{plain_trials_fit}
use Rattle.gap_report.proofs.trials.plain_trial.Goals as goal

pub loop-j-preserved : goal.loop-j-preserved
loop-j-preserved c =
    let a = c.args in
    let row : ℕ → ℕ × ℕ = λ j. plain_row (job_at a.table.now j) j a.trial in
    let last : ℕ × ℕ → List (ℕ × ℕ) = λ r. map row (range_with_len 0 c.loop-j.j) ++ r ∷ [] in
    let here : ℕ × ℕ = c.plain_row.result in
    c.in_ok-push.ensures.items ∙ ap (λ xs. xs ++ here ∷ []) c.loop-j.invariant ∙ ap last (c.plain_row.ensures ∙ ap (λ (job : Job). plain_row job c.loop-j.j a.trial) c.job.ensures.job)
    ∙ sym (map-range_with_len_more row 0 c.loop-j.j c.loop-j.j (omega arith))

pub unwrap-requires : goal.unwrap-requires
unwrap-requires c =
    let a = c.args in
    let rows : ◌≡◌ {A = List (ℕ × ℕ)} c.loop-j.rows.items (plain_trial a.table.now a.trial) =
    c.loop-j.invariant ∙ ap (λ n. map (λ j. plain_row (job_at a.table.now j) j a.trial) (range_with_len 0 n)) (omega (arith, c.loop-j-test.false, c.loop-j.auto.j-end, c.len-count.ensures.count)) in
    c.new.ensures.fits.1 (subst (Fits a.table.now) (sym rows) (plain_trials_fit a.table.now a.trial c.len-count.ensures.table))
