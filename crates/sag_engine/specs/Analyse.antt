-- The command `analyse`.
--     analyse_plan              its files in their order, and the work that they come to
--     analyse_files             their kinds and names
--     lines_text                the bytes of lines of a certificate
--     level_text                those of level k of a table's graph
--     text_up_to                those of the head line and of levels 0 to k
--     analysis_reply            what is printed, by the first offer that exceeds the budget, if there is one
--     PrintsCertificate, PrintsCertificates     the certificate that was printed
use Rattle.std.specs.Prelude.{ℕ, ◌≡◌, ◌-◌, ◌≤◌, ◌++◌, List, ◌∷◌, length, Option, None, Some, Result, Ok}
use Rattle.std.specs.List.{enumerate_from, flat_map}
use Rattle.sag_edge.specs.Reading.{SeenFiles}
use Rattle.sag_edge.specs.Writing.{SeenSink, GrowsBy}
use Rattle.sag_texts.specs.declared.fault.FileKind.{FileKind}
use Rattle.sag_texts.specs.declared.fault.FileKind.TheVariants as kinds
use Rattle.sag_texts.specs.declared.fault.Fault.{Fault}
use Rattle.sag_words.specs.declared.command.Command.TheVariants as commands
use Rattle.sag_words.specs.Words.{WordsOf}
use Rattle.job_model.specs.Table.{IsTable, Table}
use Rattle.cert_text.specs.declared.line.CertLine.{CertLine}
use Rattle.cert_text.specs.Grammar.{second_version}
use Rattle.cert_text.specs.Readable.{Readable}
use Rattle.cert_text.specs.Spelling.{line_text}
use Rattle.graph_check.specs.Valid.{Valid}
use Rattle.sag_graph.specs.Budget.{Spending}
use Rattle.sag_graph.specs.Graph.{levels_up_to}
use Rattle.sag_graph.specs.Levels.{level_at}
use Rattle.sag_graph.specs.Lines.{head_lines, level_lines}
use Rattle.sag_graph.specs.CertificateText.{lines_of_graph, text_of_graph}
use Rattle.sag_engine.specs.declared.conclusion.Conclusion.TheVariants.{Done, Spent}
use Rattle.sag_engine.specs.declared.fetch.TheConstants.{MOST_CERTIFICATE_BYTES}
use Rattle.sag_engine.specs.declared.status.Status.{Status}
use Rattle.sag_engine.specs.declared.status.Status.TheVariants as statuses
use Rattle.sag_engine.specs.Plan.{Plan, ◌>>=◌, ComesTo}
use Rattle.sag_engine.specs.Plan.Plan.{Ends}
use Rattle.sag_engine.specs.Inputs.{table_plan}
use Rattle.sag_engine.specs.Work.{Work, Reply, precedence_file}
use Rattle.sag_engine.specs.Work.Work.{Analyses}

-- the job file, and the precedence file where one is named, for the graph on so many cores within a budget of states
abbrev pub analyse_plan : List ℕ → Option (List ℕ) → ℕ → ℕ → Plan (Result Work Fault)
analyse_plan jobs prec cores budget = do
  table ← table_plan jobs prec
  Ends (Ok (Analyses table cores budget))

-- the kinds and names of its files
abbrev pub analyse_files : List ℕ → Option (List ℕ) → List (FileKind × List ℕ)
analyse_files jobs prec = (kinds.Jobs, jobs) ∷ precedence_file prec

-- the bytes of lines of a certificate
abbrev pub lines_text : List CertLine → List ℕ
lines_text lines = flat_map (line_text second_version) lines

-- the bytes of level k of a table's graph
unfoldable pub level_text : Table → ℕ → ℕ → List ℕ
level_text table m k = lines_text (level_lines (k, level_at table m k))

-- the bytes of the head line, and of levels 0 to k
unfoldable pub text_up_to : Table → ℕ → ℕ → List ℕ
text_up_to table m k = lines_text (head_lines table m ++ flat_map level_lines (enumerate_from 0 (levels_up_to table m k)))

-- The whole certificate, where no offer exceeds the budget; else the levels below the one that the first such offer leads to.
abbrev pub analysis_reply : Table → ℕ → Option Spending → Reply
analysis_reply table m None = record { conclusion = Done; bytes = text_of_graph table m }
analysis_reply table m (Some s) = record { conclusion = Spent s.level s.states s.edges; bytes = text_up_to table m (s.level - 1) }

-- The certificate of the graph of the files' table was printed: it is readable, short enough for a checker to read it, and
-- valid for this table and these cores.
pub record PrintsCertificate (jobs : List ℕ) (prec : Option (List ℕ)) (cores : ℕ) (files : SeenFiles) (out out' : SeenSink) : Type 0 where
  pub table : Table
  pub comes : ComesTo (table_plan jobs prec) files.contents (Ok table)
  pub is_table : IsTable table
  pub readable : Readable second_version (text_of_graph table cores) (lines_of_graph table cores)
  pub short : length (text_of_graph table cores) ≤ MOST_CERTIFICATE_BYTES
  pub valid : Valid table cores (lines_of_graph table cores)
  pub printed : GrowsBy out.taken out'.taken (text_of_graph table cores)

-- where the words ask for an analysis and it was done, the certificate of the graph was printed
abbrev pub PrintsCertificates : List (List ℕ) → SeenFiles → SeenSink → SeenSink → Status → Type 0
PrintsCertificates words files out out' status = status ≡ statuses.Ok → (jobs : List ℕ) (prec : Option (List ℕ)) (cores budget : ℕ)
    → WordsOf words (commands.Analyse jobs prec cores budget) → PrintsCertificate jobs prec cores files out out'
