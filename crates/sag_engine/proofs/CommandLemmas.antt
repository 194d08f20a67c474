-- What holds of each command.
--     CommandLaws       what other crates prove of words, files and runs
--     command_reads     the files that a command reads are those that its words name
--     asked_cores       words ask for a number of cores that a schedule may have
--     asked_budget      words ask for a budget that a graph may have
--     asked_horizon     words ask for a horizon that tasks may have
--     command_one       the files of a command fix its work, or its refusal
--     one_reply         its work has one reply
use Rattle.std.proofs.Common.{◌≡◌, ◌≤◌, ◌∷◌, lit≤, None, Some, ℕ, List, [], Option}
use Rattle.sag_edge.specs.Contents.{Contents}
use Rattle.sag_texts.specs.declared.fault.FileKind.{FileKind}
use Rattle.sag_words.specs.declared.command.Command.{Command}
use Rattle.sag_words.specs.declared.command.Command.TheVariants.{Analyse, Check, Replay, Report, Convert, Unroll, Audit, Selftest, Attain, WhatIf, Gap}
use Rattle.sag_words.specs.Laws.{OneCommand}
use Rattle.sag_words.specs.Numbers.{GivesBudget, GivesCores, GivesHorizon}
use Rattle.sag_words.specs.Words.{Asks, WordsOf}
use Rattle.job_model.specs.declared.limits.TheConstants.{MOST_CORES}
use Rattle.sag_graph.specs.declared.TheConstants.{MOST_BUDGET}
use Rattle.run_meaning.specs.Laws.{OneRun}
use Rattle.task_unroll.specs.declared.limits.TheConstants.{MOST_HORIZON}
use Rattle.sag_engine.specs.Plan.{ReadsNext}
use Rattle.sag_engine.specs.Work.{IsAmongFiles, Reply}
use Rattle.sag_engine.specs.Commands.{HasBudget, HasCores, HasHorizon, command_plan, files_of}
use Rattle.sag_engine.specs.RunEnds.{Gives}
use Rattle.sag_engine.proofs.AnalyseLemmas.{analyse_one, analyse_reads, one_analysis_reply}
use Rattle.sag_engine.proofs.CertificateLemmas.{CertificateLaws}
use Rattle.cert_check.specs.AnswerTexts.{yes_text}
use Rattle.sag_engine.specs.Report.{report_bytes}
use Rattle.sag_engine.specs.Work.Work.{Checks, Reports}
use Rattle.sag_engine.proofs.CertifiedLemmas.{certified_one, certified_reads, one_certified_reply}
use Rattle.sag_engine.proofs.ConvertLemmas.{ConversionLaws, convert_one, convert_reads, one_convert_reply}
use Rattle.sag_engine.proofs.OneJudgement.{FileLaws}
use Rattle.sag_engine.proofs.OnePlan.{IsOne}
use Rattle.sag_engine.proofs.ReplayLemmas.{one_run_reply, replay_one, replay_reads}
use Rattle.sag_engine.proofs.AttainLemmas.{attain_one, attain_reads, one_attain_reply}
use Rattle.sag_engine.proofs.AuditLemmas.{AuditLaws, audit_one, audit_reads, one_audit_reply}
use Rattle.sag_engine.proofs.SelftestLemmas.{one_selftest_reply, selftest_one}
use Rattle.sag_engine.proofs.UnrollLemmas.{TaskLaws, one_unroll_reply, unroll_one, unroll_reads}
use Rattle.gap_trials.specs.Laws.{OneGap}
use Rattle.sag_engine.proofs.GapLemmas.{gap_one, gap_reads, one_gap_reply}
use Rattle.sag_engine.proofs.WhatIfLemmas.{EditLaws, one_whatif_reply, whatif_one, whatif_reads}

-- what other crates prove of words, files and runs
pub record CommandLaws : Type 0 where
  pub one_command : OneCommand
  pub files : FileLaws
  pub certificates : CertificateLaws
  pub conversions : ConversionLaws
  pub one_run : OneRun
  pub tasks : TaskLaws
  pub audits : AuditLaws
  pub edits : EditLaws
  pub one_gap : OneGap

pub command_reads : (c : Command) (m : Option Contents) (k : FileKind) (n : List ℕ) → ReadsNext (command_plan c) m k n → IsAmongFiles (files_of c) k n
command_reads (Analyse jobs prec cores budget) m k n h = analyse_reads jobs prec cores budget m k n h
command_reads (Check jobs cert prec cores) m k n h = certified_reads Checks yes_text (λ table end reply is. is) jobs cert prec cores m k n h
command_reads (Replay jobs scenario prec cores) m k n h = replay_reads jobs scenario prec cores m k n h
command_reads (Report jobs cert prec cores tasks) m k n h = certified_reads (Reports tasks) (report_bytes tasks) (λ table end reply is. is) jobs cert prec cores m k n h
command_reads (Convert cert) m k n h = convert_reads cert m k n h
command_reads (Unroll tasks horizon policy) m k n h = unroll_reads tasks horizon policy m k n h
command_reads (Audit jobs scenario run prec cores) m k n h = audit_reads jobs scenario run prec cores m k n h
command_reads (Selftest number cores) m k n h = absurd h
command_reads (Attain jobs task job end budget) m k n h = attain_reads jobs task job end budget m k n h
command_reads (WhatIf jobs edits prec cores budget) m k n h = whatif_reads jobs edits prec cores budget m k n h
command_reads (Gap jobs prec cores budget trial) m k n h = gap_reads jobs prec cores budget trial m k n h

-- the number of cores that an option gives
cores_given : (text : Option (List ℕ)) (cores : ℕ) → GivesCores text cores → (1 ≤ cores) × (cores ≤ MOST_CORES)
cores_given None cores given = rw given (lit≤ tt, lit≤ tt)
cores_given (Some text) cores given = (given.1, given.2)

-- the budget that an option gives
budget_given : (text : Option (List ℕ)) (budget : ℕ) → GivesBudget text budget → (1 ≤ budget) × (budget ≤ MOST_BUDGET)
budget_given None budget given = rw given (lit≤ tt, lit≤ tt)
budget_given (Some text) budget given = (given.1, given.2)

asked_of : (name : List ℕ) (rest : List (List ℕ)) (command : Command) → Asks name rest command → HasCores command
unfolding Asks
asked_of name rest (Analyse jobs prec cores budget) asked = cores_given _ cores asked.2.2
asked_of name rest (Check jobs cert prec cores) asked = cores_given _ cores asked.2.3
asked_of name rest (Replay jobs scenario prec cores) asked = cores_given _ cores asked.2.3
asked_of name rest (Report jobs cert prec cores tasks) asked = cores_given _ cores asked.2.3
asked_of name rest (Convert cert) asked = tt
asked_of name rest (Unroll tasks horizon policy) asked = tt
asked_of name rest (Audit jobs scenario run prec cores) asked = cores_given _ cores asked.2.4
asked_of name rest (Selftest number cores) asked = cores_given _ cores asked.2.1
asked_of name rest (Attain jobs task job end budget) asked = tt
asked_of name rest (WhatIf jobs edits prec cores budget) asked = cores_given _ cores asked.2.3
asked_of name rest (Gap jobs prec cores budget trial) asked = cores_given _ cores asked.2.2

pub asked_cores : (words : List (List ℕ)) (command : Command) → WordsOf words command → HasCores command
asked_cores [] command asked = absurd asked
asked_cores (program ∷ []) command asked = absurd asked
asked_cores (program ∷ name ∷ rest) command asked = asked_of name rest command asked

budget_of : (name : List ℕ) (rest : List (List ℕ)) (command : Command) → Asks name rest command → HasBudget command
unfolding Asks
budget_of name rest (Analyse jobs prec cores budget) asked = budget_given _ budget asked.2.3
budget_of name rest (Check jobs cert prec cores) asked = tt
budget_of name rest (Replay jobs scenario prec cores) asked = tt
budget_of name rest (Report jobs cert prec cores tasks) asked = tt
budget_of name rest (Convert cert) asked = tt
budget_of name rest (Unroll tasks horizon policy) asked = tt
budget_of name rest (Audit jobs scenario run prec cores) asked = tt
budget_of name rest (Selftest number cores) asked = tt
budget_of name rest (Attain jobs task job end budget) asked = budget_given _ budget asked.2.4
budget_of name rest (WhatIf jobs edits prec cores budget) asked = budget_given _ budget asked.2.4
budget_of name rest (Gap jobs prec cores budget trial) asked = budget_given _ budget asked.2.3

pub asked_budget : (words : List (List ℕ)) (command : Command) → WordsOf words command → HasBudget command
asked_budget [] command asked = absurd asked
asked_budget (program ∷ []) command asked = absurd asked
asked_budget (program ∷ name ∷ rest) command asked = budget_of name rest command asked

-- the horizon that a place gives
horizon_given : (text : Option (List ℕ)) (horizon : ℕ) → GivesHorizon text horizon → horizon ≤ MOST_HORIZON
horizon_given None horizon given = absurd given
horizon_given (Some text) horizon given = given.2

horizon_of : (name : List ℕ) (rest : List (List ℕ)) (command : Command) → Asks name rest command → HasHorizon command
unfolding Asks
horizon_of name rest (Analyse jobs prec cores budget) asked = tt
horizon_of name rest (Check jobs cert prec cores) asked = tt
horizon_of name rest (Replay jobs scenario prec cores) asked = tt
horizon_of name rest (Report jobs cert prec cores tasks) asked = tt
horizon_of name rest (Convert cert) asked = tt
horizon_of name rest (Unroll tasks horizon policy) asked = horizon_given _ horizon asked.2.1
horizon_of name rest (Audit jobs scenario run prec cores) asked = tt
horizon_of name rest (Selftest number cores) asked = tt
horizon_of name rest (Attain jobs task job end budget) asked = tt
horizon_of name rest (WhatIf jobs edits prec cores budget) asked = tt
horizon_of name rest (Gap jobs prec cores budget trial) asked = tt

pub asked_horizon : (words : List (List ℕ)) (command : Command) → WordsOf words command → HasHorizon command
asked_horizon [] command asked = absurd asked
asked_horizon (program ∷ []) command asked = absurd asked
asked_horizon (program ∷ name ∷ rest) command asked = horizon_of name rest command asked

module _ (laws : CommandLaws) (contents : Contents) where
  pub command_one : (command : Command) → IsOne contents (command_plan command)
  command_one (Analyse jobs prec cores budget) = analyse_one laws.files contents jobs prec cores budget
  command_one (Check jobs cert prec cores) = certified_one Checks yes_text (λ table end reply is. is) laws.files laws.certificates contents jobs cert prec cores
  command_one (Replay jobs scenario prec cores) = replay_one laws.files contents jobs scenario prec cores
  command_one (Report jobs cert prec cores tasks) = certified_one (Reports tasks) (report_bytes tasks) (λ table end reply is. is) laws.files laws.certificates contents jobs cert prec cores
  command_one (Convert cert) = convert_one laws.conversions contents cert
  command_one (Unroll tasks horizon policy) = unroll_one laws.tasks contents tasks horizon policy
  command_one (Audit jobs scenario run prec cores) = audit_one laws.files laws.audits contents jobs scenario run prec cores
  command_one (Selftest number cores) = selftest_one contents number cores
  command_one (Attain jobs task job end budget) = attain_one laws.files contents jobs task job end budget
  command_one (WhatIf jobs edits prec cores budget) = whatif_one laws.files laws.edits contents jobs edits prec cores budget
  command_one (Gap jobs prec cores budget trial) = gap_one laws.files contents jobs prec cores budget trial

  pub one_reply : (command : Command) → HasCores command → (r s : Reply) → Gives (command_plan command) (Some contents) r → Gives (command_plan command) (Some contents) s → r ≡ s
  one_reply (Analyse jobs prec cores budget) few r s a b = one_analysis_reply laws.files contents jobs prec cores budget r s a b
  one_reply (Check jobs cert prec cores) few r s a b = one_certified_reply Checks yes_text (λ table end reply is. is) laws.files laws.certificates contents jobs cert prec cores r s a b
  one_reply (Replay jobs scenario prec cores) few r s a b = one_run_reply laws.files laws.one_run contents jobs scenario prec cores r s a b
  one_reply (Report jobs cert prec cores tasks) few r s a b = one_certified_reply (Reports tasks) (report_bytes tasks) (λ table end reply is. is) laws.files laws.certificates contents jobs cert prec cores r s a b
  one_reply (Convert cert) few r s a b = one_convert_reply laws.conversions contents cert r s a b
  one_reply (Unroll tasks horizon policy) few r s a b = one_unroll_reply laws.tasks contents tasks horizon policy r s a b
  one_reply (Audit jobs scenario run prec cores) few r s a b = one_audit_reply laws.files laws.audits contents jobs scenario run prec cores r s a b
  one_reply (Selftest number cores) few r s a b = one_selftest_reply (Some contents) number cores r s a b
  one_reply (Attain jobs task job end budget) few r s a b = one_attain_reply laws.files contents jobs task job end budget r s a b
  one_reply (WhatIf jobs edits prec cores budget) few r s a b = one_whatif_reply laws.files laws.edits contents jobs edits prec cores budget r s a b
  one_reply (Gap jobs prec cores budget trial) few r s a b = one_gap_reply laws.files laws.one_gap contents jobs prec cores budget trial few.0 r s a b
