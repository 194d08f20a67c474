-- What the words of a command line ask for.
--   name_of         how a command is spelled
--   app_of_command  the grammar of its words
--   HasValues       the values are those of this command
--   Asks            a command's name and the words after it ask for this command
--   WordsOf         the words of a command line ask for this command
use Rattle.std.specs.Prelude.{◌≡◌, List, [], ◌∷◌, codes}
use Rattle.clap.specs.Words.{App, Text}
use Rattle.sag_words.specs.Apps.{IsInGrammar, Values, value_at}
use Rattle.sag_words.specs.Analyse.{HasAnalyseValues, analyse_app}
use Rattle.sag_words.specs.Attain.{HasAttainValues, attain_app}
use Rattle.sag_words.specs.Audit.{HasAuditValues, audit_app}
use Rattle.sag_words.specs.Check.{HasCheckValues, check_app}
use Rattle.sag_words.specs.Convert.{HasConvertValues, convert_app}
use Rattle.sag_words.specs.Gap.{HasGapValues, gap_app}
use Rattle.sag_words.specs.Replay.{HasReplayValues, replay_app}
use Rattle.sag_words.specs.Report.{HasReportValues, report_app}
use Rattle.sag_words.specs.Selftest.{HasSelftestValues, selftest_app}
use Rattle.sag_words.specs.Unroll.{HasUnrollValues, unroll_app}
use Rattle.sag_words.specs.WhatIf.{HasWhatIfValues, whatif_app}
use Rattle.sag_words.specs.declared.command.Command.{Command}
use Rattle.sag_words.specs.declared.command.Command.TheVariants.{Analyse, Check, Replay, Attain, Report, Selftest, Convert, Audit, Unroll, WhatIf, Gap}

-- how a command is spelled
abbrev pub name_of : Command → Text
name_of (Analyse jobs prec cores budget) = codes "analyse"
name_of (Check jobs cert prec cores) = codes "check"
name_of (Replay jobs scenario prec cores) = codes "replay"
name_of (Attain jobs task job end budget) = codes "attain"
name_of (Report jobs cert prec cores tasks) = codes "report"
name_of (Selftest number cores) = codes "selftest"
name_of (Convert cert) = codes "convert"
name_of (Audit jobs scenario run prec cores) = codes "audit"
name_of (Unroll tasks horizon policy) = codes "unroll"
name_of (WhatIf jobs edits prec cores budget) = codes "whatif"
name_of (Gap jobs prec cores budget trial) = codes "gap"

-- the grammar of its words
abbrev pub app_of_command : Command → App
app_of_command (Analyse jobs prec cores budget) = analyse_app
app_of_command (Check jobs cert prec cores) = check_app
app_of_command (Replay jobs scenario prec cores) = replay_app
app_of_command (Attain jobs task job end budget) = attain_app
app_of_command (Report jobs cert prec cores tasks) = report_app
app_of_command (Selftest number cores) = selftest_app
app_of_command (Convert cert) = convert_app
app_of_command (Audit jobs scenario run prec cores) = audit_app
app_of_command (Unroll tasks horizon policy) = unroll_app
app_of_command (WhatIf jobs edits prec cores budget) = whatif_app
app_of_command (Gap jobs prec cores budget trial) = gap_app

-- the values are those of this command
abbrev pub HasValues : Values → Command → Type 0
HasValues given (Analyse jobs prec cores budget) = HasAnalyseValues given jobs prec cores budget
HasValues given (Check jobs cert prec cores) = HasCheckValues given jobs cert prec cores
HasValues given (Replay jobs scenario prec cores) = HasReplayValues given jobs scenario prec cores
HasValues given (Attain jobs task job end budget) = HasAttainValues given jobs task job end budget
HasValues given (Report jobs cert prec cores tasks) = HasReportValues given jobs cert prec cores tasks
HasValues given (Selftest number cores) = HasSelftestValues given number cores
HasValues given (Convert cert) = HasConvertValues given cert
HasValues given (Audit jobs scenario run prec cores) = HasAuditValues given jobs scenario run prec cores
HasValues given (Unroll tasks horizon policy) = HasUnrollValues given tasks horizon policy
HasValues given (WhatIf jobs edits prec cores budget) = HasWhatIfValues given jobs edits prec cores budget
HasValues given (Gap jobs prec cores budget trial) = HasGapValues given jobs prec cores budget trial

-- the name is that of this command, and the words after it are in its grammar and give its values
unfoldable pub Asks : Text → List Text → Command → Type 0
Asks name rest command = (name ≡ name_of command) × IsInGrammar (app_of_command command) rest × HasValues (value_at (app_of_command command) rest) command

-- the words are the program's name, a command's name, and words that ask for this command
abbrev pub WordsOf : List Text → Command → Type 0
WordsOf [] command = ⊥
WordsOf (program ∷ []) command = ⊥
WordsOf (program ∷ name ∷ rest) command = Asks name rest command
