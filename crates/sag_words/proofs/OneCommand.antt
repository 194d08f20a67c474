-- Words ask for at most one command.
use Rattle.std.proofs.Common.{◌≡◌, ◌∙◌, ℕ, Bool, List, [], ◌∷◌, Option, Some, None, ap, refl, sym}
use Rattle.clap.specs.Words.{Text}
use Rattle.sag_words.specs.Apps.{Values, value_at}
use Rattle.sag_words.specs.Analyse.{analyse_app}
use Rattle.sag_words.specs.Attain.{attain_app}
use Rattle.sag_words.specs.Audit.{audit_app}
use Rattle.sag_words.specs.Check.{check_app}
use Rattle.sag_words.specs.Convert.{convert_app}
use Rattle.sag_words.specs.Gap.{gap_app}
use Rattle.sag_words.specs.Replay.{replay_app}
use Rattle.sag_words.specs.Report.{report_app}
use Rattle.sag_words.specs.Laws.{OneCommand}
use Rattle.sag_words.specs.Ends.{GivesEnd, end_word}
use Rattle.sag_words.specs.Numbers.{GivesBudget, GivesCores, GivesHorizon, GivesNumber, GivesTrial}
use Rattle.sag_words.specs.Policies.{GivesPolicy, policy_word}
use Rattle.sag_words.specs.Selftest.{selftest_app}
use Rattle.sag_words.specs.Unroll.{unroll_app}
use Rattle.sag_words.specs.WhatIf.{whatif_app}
use Rattle.sag_words.specs.Words.{Asks, HasValues, name_of}
use Rattle.sag_words.proofs.WordLemmas.{names_differ}
use Rattle.job_model.specs.declared.interval_end.End.{End}
use Rattle.job_model.specs.declared.interval_end.End.TheVariants.{Best, Worst}
use Rattle.task_unroll.specs.declared.task.Policy.{Policy}
use Rattle.task_unroll.specs.declared.task.Policy.TheVariants.{Rate, Deadline, Edf}
use Rattle.sag_words.specs.declared.command.Command.{Command}
use Rattle.sag_words.specs.declared.command.Command.TheVariants.{Analyse, Check, Replay, Attain, Report, Selftest, Convert, Audit, Unroll, WhatIf, Gap}

-- a text gives one number of cores
same_cores : (text : Option Text) (one other : ℕ) → GivesCores text one → GivesCores text other → one ≡ other
same_cores None one other g h = g ∙ sym h
same_cores (Some text) one other g h = sym g.0.value ∙ h.0.value

-- and one budget
same_budget : (text : Option Text) (one other : ℕ) → GivesBudget text one → GivesBudget text other → one ≡ other
same_budget None one other g h = g ∙ sym h
same_budget (Some text) one other g h = sym g.0.value ∙ h.0.value

-- an argument has one value
same_value : (value : Option Text) (one other : Text) → value ≡ Some one → value ≡ Some other → one ≡ other
same_value value one other g h = cc

-- and one number
same_number : (text : Option Text) (one other : ℕ) → GivesNumber text one → GivesNumber text other → one ≡ other
same_number None one other g h = absurd g
same_number (Some text) one other g h = sym g.value ∙ h.value

-- and one horizon
same_horizon : (text : Option Text) (one other : ℕ) → GivesHorizon text one → GivesHorizon text other → one ≡ other
same_horizon None one other g h = absurd g
same_horizon (Some text) one other g h = sym g.0.value ∙ h.0.value

-- and one trial
same_trial : (text : Option Text) (one other : Option ℕ) → GivesTrial text one → GivesTrial text other → one ≡ other
same_trial None one other g h = g ∙ sym h
same_trial (Some text) None other g h = absurd g
same_trial (Some text) (Some one) None g h = absurd h
same_trial (Some text) (Some one) (Some other) g h = ap Some (sym g.0.value ∙ h.0.value)

-- ends of one spelling are one end
same_end_word : (one other : End) → end_word one ≡ end_word other → one ≡ other
same_end_word Best Best e = refl
same_end_word Best Worst e = absurd (names_differ (end_word Best) (end_word Worst) refl e)
same_end_word Worst Best e = absurd (names_differ (end_word Worst) (end_word Best) refl e)
same_end_word Worst Worst e = refl

-- a text gives one end
same_end : (text : Option Text) (one other : End) → GivesEnd text one → GivesEnd text other → one ≡ other
same_end text one other g h = same_end_word one other (same_value text (end_word one) (end_word other) g h)

-- policies of one spelling are one policy
same_policy_word : (one other : Policy) → policy_word one ≡ policy_word other → one ≡ other
same_policy_word Rate Rate e = refl
same_policy_word Rate Deadline e = absurd (names_differ (policy_word Rate) (policy_word Deadline) refl e)
same_policy_word Rate Edf e = absurd (names_differ (policy_word Rate) (policy_word Edf) refl e)
same_policy_word Deadline Rate e = absurd (names_differ (policy_word Deadline) (policy_word Rate) refl e)
same_policy_word Deadline Deadline e = refl
same_policy_word Deadline Edf e = absurd (names_differ (policy_word Deadline) (policy_word Edf) refl e)
same_policy_word Edf Rate e = absurd (names_differ (policy_word Edf) (policy_word Rate) refl e)
same_policy_word Edf Deadline e = absurd (names_differ (policy_word Edf) (policy_word Deadline) refl e)
same_policy_word Edf Edf e = refl

-- a text gives one policy
same_policy : (text : Option Text) (one other : Policy) → GivesPolicy text one → GivesPolicy text other → one ≡ other
same_policy text one other g h = same_policy_word one other (same_value text (policy_word one) (policy_word other) g h)

same_analyse : (given : Values) (jobs : Text) (prec : Option Text) (cores budget : ℕ) (jobs' : Text) (prec' : Option Text) (cores' budget' : ℕ)
    → HasValues given (Analyse jobs prec cores budget) → HasValues given (Analyse jobs' prec' cores' budget') → Analyse jobs prec cores budget ≡ Analyse jobs' prec' cores' budget'
same_analyse given jobs prec cores budget jobs' prec' cores' budget' g h =
    let jobs_are = same_value _ jobs jobs' g.0 h.0 in
    let prec_is : prec ≡ prec' = sym g.1 ∙ h.1 in
    let cores_are = same_cores _ cores cores' g.2 h.2 in
    let budget_is = same_budget _ budget budget' g.3 h.3 in
    rw (jobs_are, prec_is, cores_are, budget_is) refl

same_check : (given : Values) (jobs cert : Text) (prec : Option Text) (cores : ℕ) (jobs' cert' : Text) (prec' : Option Text) (cores' : ℕ)
    → HasValues given (Check jobs cert prec cores) → HasValues given (Check jobs' cert' prec' cores') → Check jobs cert prec cores ≡ Check jobs' cert' prec' cores'
same_check given jobs cert prec cores jobs' cert' prec' cores' g h =
    let jobs_are = same_value _ jobs jobs' g.0 h.0 in
    let cert_is = same_value _ cert cert' g.1 h.1 in
    let prec_is : prec ≡ prec' = sym g.2 ∙ h.2 in
    let cores_are = same_cores _ cores cores' g.3 h.3 in
    rw (jobs_are, cert_is, prec_is, cores_are) refl

same_replay : (given : Values) (jobs scenario : Text) (prec : Option Text) (cores : ℕ) (jobs' scenario' : Text) (prec' : Option Text) (cores' : ℕ)
    → HasValues given (Replay jobs scenario prec cores) → HasValues given (Replay jobs' scenario' prec' cores') → Replay jobs scenario prec cores ≡ Replay jobs' scenario' prec' cores'
same_replay given jobs scenario prec cores jobs' scenario' prec' cores' g h =
    let jobs_are = same_value _ jobs jobs' g.0 h.0 in
    let scenario_is = same_value _ scenario scenario' g.1 h.1 in
    let prec_is : prec ≡ prec' = sym g.2 ∙ h.2 in
    let cores_are = same_cores _ cores cores' g.3 h.3 in
    rw (jobs_are, scenario_is, prec_is, cores_are) refl

same_attain : (given : Values) (jobs : Text) (task job : ℕ) (end : End) (budget : ℕ) (jobs' : Text) (task' job' : ℕ) (end' : End) (budget' : ℕ)
    → HasValues given (Attain jobs task job end budget) → HasValues given (Attain jobs' task' job' end' budget')
    → Attain jobs task job end budget ≡ Attain jobs' task' job' end' budget'
same_attain given jobs task job end budget jobs' task' job' end' budget' g h =
    let jobs_are = same_value _ jobs jobs' g.0 h.0 in
    let task_is = same_number _ task task' g.1 h.1 in
    let job_is = same_number _ job job' g.2 h.2 in
    let end_is = same_end _ end end' g.3 h.3 in
    let budget_is = same_budget _ budget budget' g.4 h.4 in
    rw (jobs_are, task_is, job_is, end_is, budget_is) refl

same_report : (given : Values) (jobs cert : Text) (prec : Option Text) (cores : ℕ) (tasks : Bool) (jobs' cert' : Text) (prec' : Option Text) (cores' : ℕ) (tasks' : Bool)
    → HasValues given (Report jobs cert prec cores tasks) → HasValues given (Report jobs' cert' prec' cores' tasks')
    → Report jobs cert prec cores tasks ≡ Report jobs' cert' prec' cores' tasks'
same_report given jobs cert prec cores tasks jobs' cert' prec' cores' tasks' g h =
    let jobs_are = same_value _ jobs jobs' g.0 h.0 in
    let cert_is = same_value _ cert cert' g.1 h.1 in
    let prec_is : prec ≡ prec' = sym g.2 ∙ h.2 in
    let cores_are = same_cores _ cores cores' g.3 h.3 in
    let tasks_are : tasks ≡ tasks' = sym g.4 ∙ h.4 in
    rw (jobs_are, cert_is, prec_is, cores_are, tasks_are) refl

same_selftest : (given : Values) (number cores number' cores' : ℕ)
    → HasValues given (Selftest number cores) → HasValues given (Selftest number' cores') → Selftest number cores ≡ Selftest number' cores'
same_selftest given number cores number' cores' g h =
    let number_is = same_number _ number number' g.0 h.0 in
    let cores_are = same_cores _ cores cores' g.1 h.1 in
    rw (number_is, cores_are) refl

same_convert : (given : Values) (cert cert' : Text) → HasValues given (Convert cert) → HasValues given (Convert cert') → Convert cert ≡ Convert cert'
same_convert given cert cert' g h =
    let cert_is = same_value _ cert cert' g h in
    rw cert_is refl

same_audit : (given : Values) (jobs scenario run : Text) (prec : Option Text) (cores : ℕ) (jobs' scenario' run' : Text) (prec' : Option Text) (cores' : ℕ)
    → HasValues given (Audit jobs scenario run prec cores) → HasValues given (Audit jobs' scenario' run' prec' cores')
    → Audit jobs scenario run prec cores ≡ Audit jobs' scenario' run' prec' cores'
same_audit given jobs scenario run prec cores jobs' scenario' run' prec' cores' g h =
    let jobs_are = same_value _ jobs jobs' g.0 h.0 in
    let scenario_is = same_value _ scenario scenario' g.1 h.1 in
    let run_is = same_value _ run run' g.2 h.2 in
    let prec_is : prec ≡ prec' = sym g.3 ∙ h.3 in
    let cores_are = same_cores _ cores cores' g.4 h.4 in
    rw (jobs_are, scenario_is, run_is, prec_is, cores_are) refl

same_unroll : (given : Values) (tasks : Text) (horizon : ℕ) (policy : Policy) (tasks' : Text) (horizon' : ℕ) (policy' : Policy)
    → HasValues given (Unroll tasks horizon policy) → HasValues given (Unroll tasks' horizon' policy')
    → Unroll tasks horizon policy ≡ Unroll tasks' horizon' policy'
same_unroll given tasks horizon policy tasks' horizon' policy' g h =
    let tasks_are = same_value _ tasks tasks' g.0 h.0 in
    let horizon_is = same_horizon _ horizon horizon' g.1 h.1 in
    let policy_is = same_policy _ policy policy' g.2 h.2 in
    rw (tasks_are, horizon_is, policy_is) refl

same_whatif : (given : Values) (jobs edits : Text) (prec : Option Text) (cores budget : ℕ) (jobs' edits' : Text) (prec' : Option Text) (cores' budget' : ℕ)
    → HasValues given (WhatIf jobs edits prec cores budget) → HasValues given (WhatIf jobs' edits' prec' cores' budget')
    → WhatIf jobs edits prec cores budget ≡ WhatIf jobs' edits' prec' cores' budget'
same_whatif given jobs edits prec cores budget jobs' edits' prec' cores' budget' g h =
    let jobs_are = same_value _ jobs jobs' g.0 h.0 in
    let edits_are = same_value _ edits edits' g.1 h.1 in
    let prec_is : prec ≡ prec' = sym g.2 ∙ h.2 in
    let cores_are = same_cores _ cores cores' g.3 h.3 in
    let budget_is = same_budget _ budget budget' g.4 h.4 in
    rw (jobs_are, edits_are, prec_is, cores_are, budget_is) refl

same_gap : (given : Values) (jobs : Text) (prec : Option Text) (cores budget : ℕ) (trial : Option ℕ) (jobs' : Text) (prec' : Option Text) (cores' budget' : ℕ) (trial' : Option ℕ)
    → HasValues given (Gap jobs prec cores budget trial) → HasValues given (Gap jobs' prec' cores' budget' trial')
    → Gap jobs prec cores budget trial ≡ Gap jobs' prec' cores' budget' trial'
same_gap given jobs prec cores budget trial jobs' prec' cores' budget' trial' g h =
    let jobs_are = same_value _ jobs jobs' g.0 h.0 in
    let prec_is : prec ≡ prec' = sym g.1 ∙ h.1 in
    let cores_are = same_cores _ cores cores' g.2 h.2 in
    let budget_is = same_budget _ budget budget' g.3 h.3 in
    let trial_is = same_trial _ trial trial' g.4 h.4 in
    rw (jobs_are, prec_is, cores_are, budget_is, trial_is) refl

same_command : (name : Text) (rest : List Text) (one other : Command) → Asks name rest one → Asks name rest other → one ≡ other
unfolding Asks
same_command name rest (Analyse jobs prec cores budget) (Analyse jobs' prec' cores' budget') g h =
    same_analyse (value_at analyse_app rest) jobs prec cores budget jobs' prec' cores' budget' g.2 h.2
same_command name rest (Check jobs cert prec cores) (Check jobs' cert' prec' cores') g h =
    same_check (value_at check_app rest) jobs cert prec cores jobs' cert' prec' cores' g.2 h.2
same_command name rest (Replay jobs scenario prec cores) (Replay jobs' scenario' prec' cores') g h =
    same_replay (value_at replay_app rest) jobs scenario prec cores jobs' scenario' prec' cores' g.2 h.2
same_command name rest (Attain jobs task job end budget) (Attain jobs' task' job' end' budget') g h =
    same_attain (value_at attain_app rest) jobs task job end budget jobs' task' job' end' budget' g.2 h.2
same_command name rest (Report jobs cert prec cores tasks) (Report jobs' cert' prec' cores' tasks') g h =
    same_report (value_at report_app rest) jobs cert prec cores tasks jobs' cert' prec' cores' tasks' g.2 h.2
same_command name rest (Selftest number cores) (Selftest number' cores') g h =
    same_selftest (value_at selftest_app rest) number cores number' cores' g.2 h.2
same_command name rest (Convert cert) (Convert cert') g h = same_convert (value_at convert_app rest) cert cert' g.2 h.2
same_command name rest (Audit jobs scenario run prec cores) (Audit jobs' scenario' run' prec' cores') g h =
    same_audit (value_at audit_app rest) jobs scenario run prec cores jobs' scenario' run' prec' cores' g.2 h.2
same_command name rest (Unroll tasks horizon policy) (Unroll tasks' horizon' policy') g h =
    same_unroll (value_at unroll_app rest) tasks horizon policy tasks' horizon' policy' g.2 h.2
same_command name rest (WhatIf jobs edits prec cores budget) (WhatIf jobs' edits' prec' cores' budget') g h =
    same_whatif (value_at whatif_app rest) jobs edits prec cores budget jobs' edits' prec' cores' budget' g.2 h.2
same_command name rest (Gap jobs prec cores budget trial) (Gap jobs' prec' cores' budget' trial') g h =
    same_gap (value_at gap_app rest) jobs prec cores budget trial jobs' prec' cores' budget' trial' g.2 h.2
same_command name rest one other g h = absurd (names_differ (name_of one) (name_of other) refl (sym g.0 ∙ h.0))

pub one_command : OneCommand
one_command [] one other g h = absurd g
one_command (program ∷ []) one other g h = absurd g
one_command (program ∷ name ∷ rest) one other g h = same_command name rest one other g h
