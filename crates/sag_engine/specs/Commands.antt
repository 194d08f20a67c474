-- What each command reads and prints.
--     Replies work reply       this may be printed for that work
--     command_plan command     the files of a command in their order, and the work that they come to
--     HasCores command         the number of cores is one that a schedule may have
--     HasBudget command        the budget is one that a graph may have
--     HasHorizon command       the horizon is one that tasks may have
--     files_of command         their kinds and names
use Rattle.std.specs.Prelude.{ℕ, ◌≡◌, ◌≤◌, List, [], Result, ⊤}
use Rattle.sag_texts.specs.declared.fault.FileKind.{FileKind}
use Rattle.sag_texts.specs.declared.fault.Fault.{Fault}
use Rattle.sag_words.specs.declared.command.Command.{Command}
use Rattle.sag_words.specs.declared.command.Command.TheVariants as commands
use Rattle.job_model.specs.declared.limits.TheConstants.{MOST_CORES}
use Rattle.sag_graph.specs.declared.TheConstants.{MOST_BUDGET}
use Rattle.sag_graph.specs.Budget.{spent}
use Rattle.task_unroll.specs.declared.limits.TheConstants.{MOST_HORIZON}
use Rattle.sag_engine.specs.Plan.{Plan}
use Rattle.sag_engine.specs.Work.{Work, Reply}
use Rattle.sag_engine.specs.Work.Work.{Analyses, Checks, Replays, Reports, Converts, Unrolls, AuditsRun, Selftests, Attains, WhatIfs, Gaps}
use Rattle.sag_engine.specs.Analyse.{analyse_files, analyse_plan, analysis_reply}
use Rattle.sag_engine.specs.Check.{check_files, check_plan, check_reply}
use Rattle.sag_engine.specs.Replay.{IsRunReply, replay_files, replay_plan}
use Rattle.sag_engine.specs.Report.{report_files, report_plan, report_reply}
use Rattle.sag_engine.specs.Convert.{convert_files, convert_plan, convert_reply}
use Rattle.sag_engine.specs.Attain.{attain_files, attain_plan, attain_reply}
use Rattle.sag_engine.specs.Audit.{IsAuditReply, audit_files, audit_plan}
use Rattle.sag_engine.specs.Gap.{IsGapReply, gap_files, gap_plan}
use Rattle.sag_engine.specs.Selftest.{reply_of_selftest, selftest_plan}
use Rattle.sag_engine.specs.Unroll.{IsJobFileReply, unroll_files, unroll_plan}
use Rattle.sag_engine.specs.WhatIf.{first_of_edits, whatif_files, whatif_plan, whatif_reply}

-- this may be printed for that work
abbrev pub Replies : Work → Reply → Type 0
Replies (Analyses table m budget) reply = reply ≡ analysis_reply table m (spent table m budget)
Replies (Checks table end) reply = reply ≡ check_reply table end
Replies (Replays table m scenario) reply = IsRunReply table m scenario reply
Replies (Reports tasks table end) reply = reply ≡ report_reply tasks table end
Replies (Converts text) reply = reply ≡ convert_reply text
Replies (Unrolls table) reply = IsJobFileReply table reply
Replies (AuditsRun table m scenario schedule) reply = IsAuditReply table m scenario schedule reply
Replies (Selftests number m) reply = reply ≡ reply_of_selftest number m
Replies (Attains table j end budget) reply = reply ≡ attain_reply table j end (spent table 1 budget)
Replies (WhatIfs table changes m budget) reply = reply ≡ whatif_reply table changes m (first_of_edits table changes m budget)
Replies (Gaps table m budget trial) reply = IsGapReply table m trial (spent table m budget) reply

-- the files of a command in the order in which they are read and judged, and the work that they come to
abbrev pub command_plan : Command → Plan (Result Work Fault)
command_plan (commands.Analyse jobs prec cores budget) = analyse_plan jobs prec cores budget
command_plan (commands.Check jobs cert prec cores) = check_plan jobs cert prec cores
command_plan (commands.Replay jobs scenario prec cores) = replay_plan jobs scenario prec cores
command_plan (commands.Report jobs cert prec cores tasks) = report_plan jobs cert prec cores tasks
command_plan (commands.Convert cert) = convert_plan cert
command_plan (commands.Unroll tasks horizon policy) = unroll_plan tasks horizon policy
command_plan (commands.Audit jobs scenario run prec cores) = audit_plan jobs scenario run prec cores
command_plan (commands.Selftest number cores) = selftest_plan number cores
command_plan (commands.Attain jobs task job end budget) = attain_plan jobs task job end budget
command_plan (commands.WhatIf jobs edits prec cores budget) = whatif_plan jobs edits prec cores budget
command_plan (commands.Gap jobs prec cores budget trial) = gap_plan jobs prec cores budget trial

-- a command's cores are from 1 to the most, where it has cores
abbrev pub HasCores : Command → Type 0
HasCores (commands.Analyse jobs prec cores budget) = (1 ≤ cores) × (cores ≤ MOST_CORES)
HasCores (commands.Check jobs cert prec cores) = (1 ≤ cores) × (cores ≤ MOST_CORES)
HasCores (commands.Replay jobs scenario prec cores) = (1 ≤ cores) × (cores ≤ MOST_CORES)
HasCores (commands.Report jobs cert prec cores tasks) = (1 ≤ cores) × (cores ≤ MOST_CORES)
HasCores (commands.Convert cert) = ⊤
HasCores (commands.Unroll tasks horizon policy) = ⊤
HasCores (commands.Audit jobs scenario run prec cores) = (1 ≤ cores) × (cores ≤ MOST_CORES)
HasCores (commands.Selftest number cores) = (1 ≤ cores) × (cores ≤ MOST_CORES)
HasCores (commands.Attain jobs task job end budget) = ⊤
HasCores (commands.WhatIf jobs edits prec cores budget) = (1 ≤ cores) × (cores ≤ MOST_CORES)
HasCores (commands.Gap jobs prec cores budget trial) = (1 ≤ cores) × (cores ≤ MOST_CORES)

-- a command's budget, where it has one, is from 1 to the greatest
abbrev pub HasBudget : Command → Type 0
HasBudget (commands.Analyse jobs prec cores budget) = (1 ≤ budget) × (budget ≤ MOST_BUDGET)
HasBudget (commands.Check jobs cert prec cores) = ⊤
HasBudget (commands.Replay jobs scenario prec cores) = ⊤
HasBudget (commands.Report jobs cert prec cores tasks) = ⊤
HasBudget (commands.Convert cert) = ⊤
HasBudget (commands.Unroll tasks horizon policy) = ⊤
HasBudget (commands.Audit jobs scenario run prec cores) = ⊤
HasBudget (commands.Selftest number cores) = ⊤
HasBudget (commands.Attain jobs task job end budget) = (1 ≤ budget) × (budget ≤ MOST_BUDGET)
HasBudget (commands.WhatIf jobs edits prec cores budget) = (1 ≤ budget) × (budget ≤ MOST_BUDGET)
HasBudget (commands.Gap jobs prec cores budget trial) = (1 ≤ budget) × (budget ≤ MOST_BUDGET)

-- a command's horizon, where it has one, is at most the latest
abbrev pub HasHorizon : Command → Type 0
HasHorizon (commands.Unroll tasks horizon policy) = horizon ≤ MOST_HORIZON
HasHorizon other = ⊤

-- the kinds and names of the files of a command
abbrev pub files_of : Command → List (FileKind × List ℕ)
files_of (commands.Analyse jobs prec cores budget) = analyse_files jobs prec
files_of (commands.Check jobs cert prec cores) = check_files jobs cert prec
files_of (commands.Replay jobs scenario prec cores) = replay_files jobs scenario prec
files_of (commands.Report jobs cert prec cores tasks) = report_files jobs cert prec
files_of (commands.Convert cert) = convert_files cert
files_of (commands.Unroll tasks horizon policy) = unroll_files tasks
files_of (commands.Audit jobs scenario run prec cores) = audit_files jobs scenario run prec
files_of (commands.Selftest number cores) = []
files_of (commands.Attain jobs task job end budget) = attain_files jobs
files_of (commands.WhatIf jobs edits prec cores budget) = whatif_files jobs edits prec
files_of (commands.Gap jobs prec cores budget trial) = gap_files jobs prec
