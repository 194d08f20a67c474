-- The command `whatif`.
--     EditsRefused table bytes fault     the first rule that a file of edits breaks
--     IsEditList table bytes edits       the edits of such a file
--     EditsJudged table bytes end        these, or that rule
--     edits_plan table name              such a file is read, and judged
--     whatif_plan, whatif_files          its files in their order, and the work that they come to
--     first_of_edits                     the first offer over the budget, in the graphs before and after each edit in turn
--     whatif_reply                       what is printed, by that offer, if there is one
--     PrintsWhatIf, PrintsWhatIfs        the certificate that was printed
use Rattle.std.specs.Prelude.{ℕ, ◌≡◌, ◌≢◌, ◌≤◌, ◌<◌, ◌++◌, All, List, [], ◌∷◌, length, Option, None, Some, Result, Ok, Err}
use Rattle.sag_edge.specs.Reading.{SeenFiles}
use Rattle.sag_edge.specs.Writing.{SeenSink, GrowsBy}
use Rattle.sag_texts.specs.declared.fault.FileKind.{FileKind}
use Rattle.sag_texts.specs.declared.fault.FileKind.TheVariants as kinds
use Rattle.sag_texts.specs.declared.fault.Fault.{Fault}
use Rattle.sag_texts.specs.declared.fault.Fault.TheVariants as faults
use Rattle.sag_words.specs.declared.command.Command.TheVariants as commands
use Rattle.sag_words.specs.Words.{WordsOf}
use Rattle.job_model.specs.Table.{IsTable, Table}
use Rattle.job_model.specs.Times.{MayCost}
use Rattle.cert_text.specs.Grammar.{second_version}
use Rattle.cert_text.specs.Readable.{Readable}
use Rattle.graph_check.specs.Valid.{Valid}
use Rattle.sag_graph.specs.Budget.{Spending}
use Rattle.sag_graph.specs.CertificateText.{lines_of_graph, text_of_graph}
use Rattle.side_csv.specs.declared.edits.JobEdit.{JobEdit}
use Rattle.side_csv.specs.declared.fault.SideFault.{SideFault}
use Rattle.side_csv.specs.declared.fault.SideFault.TheVariants as side
use Rattle.side_csv.specs.EditFaults.{FirstEditFault}
use Rattle.side_csv.specs.EditsText.{EditsText}
use Rattle.what_if.specs.Edits.{first_spent, tables_of, with_edits}
use Rattle.sag_engine.specs.declared.conclusion.Conclusion.TheVariants.{Done, Spent}
use Rattle.sag_engine.specs.declared.fetch.TheConstants.{MOST_CERTIFICATE_BYTES, MOST_FILE_BYTES}
use Rattle.sag_engine.specs.declared.status.Status.{Status}
use Rattle.sag_engine.specs.declared.status.Status.TheVariants as statuses
use Rattle.sag_engine.specs.Plan.{AreBytesOf, ComesTo, Plan, ◌>>=◌, file_plan, judged}
use Rattle.sag_engine.specs.Plan.Plan.{Ends}
use Rattle.sag_engine.specs.Inputs.{table_plan}
use Rattle.sag_engine.specs.Work.{Work, Reply, precedence_file}
use Rattle.sag_engine.specs.Work.Work.{WhatIfs}

-- The first rule that a file of edits breaks. Want of memory is no refusal.
abbrev pub EditsRefused : Table → List ℕ → Fault → Type 0
EditsRefused table bytes fault = (e : SideFault) × (fault ≡ faults.Side kinds.Edits e) × (e ≢ side.Memory) × FirstEditFault table bytes e

-- the edits that a file gives: of jobs of the table, with costs that a job may have
pub record IsEditList (table : Table) (bytes : List ℕ) (edits : List JobEdit) : Type 0 where
  pub text : EditsText table bytes edits
  pub in_range : All (λ e. e.job < length table.jobs) edits
  pub costs : All (λ e. MayCost e.cmin e.cmax) edits

-- the edits of such a file, or the first rule that the file breaks
abbrev pub EditsJudged : Table → List ℕ → Result (List JobEdit) Fault → Type 0
EditsJudged table bytes (Ok edits) = IsEditList table bytes edits
EditsJudged table bytes (Err fault) = EditsRefused table bytes fault

-- the file of edits of this table
unfoldable pub edits_plan : Table → List ℕ → Plan (Result (List JobEdit) Fault)
edits_plan table name = do
  bytes ← file_plan kinds.Edits name MOST_FILE_BYTES
  judged (EditsJudged table bytes)

-- the job file, the precedence file where one is named, and then the file of edits, for graphs on so many cores within a budget of
-- states
abbrev pub whatif_plan : List ℕ → List ℕ → Option (List ℕ) → ℕ → ℕ → Plan (Result Work Fault)
whatif_plan jobs edits prec cores budget = do
  table ← table_plan jobs prec
  changes ← edits_plan table edits
  Ends (Ok (WhatIfs table changes cores budget))

-- the kinds and names of its files
abbrev pub whatif_files : List ℕ → List ℕ → Option (List ℕ) → List (FileKind × List ℕ)
whatif_files jobs edits prec = (kinds.Jobs, jobs) ∷ precedence_file prec ++ (kinds.Edits, edits) ∷ []

-- the first offer over the budget, in the graphs before and after each edit in turn, if there is one
abbrev pub first_of_edits : Table → List JobEdit → ℕ → ℕ → Option Spending
first_of_edits table changes m budget = first_spent (tables_of table changes) m budget

-- The certificate of the graph once all edits are made, in their order; where an offer exceeds the budget, nothing.
abbrev pub whatif_reply : Table → List JobEdit → ℕ → Option Spending → Reply
whatif_reply table changes m None = record { conclusion = Done; bytes = text_of_graph (with_edits table changes) m }
whatif_reply table changes m (Some s) = record { conclusion = Spent s.level s.states s.edges; bytes = [] }

-- The certificate of the graph of the edited table was printed: the table is that of the files, with the edits of the file of
-- edits made in their order. It is readable, short enough for a checker to read it, and valid for this table and these cores.
pub record PrintsWhatIf (jobs edits : List ℕ) (prec : Option (List ℕ)) (cores : ℕ) (files : SeenFiles) (out out' : SeenSink) : Type 0 where
  pub before : Table
  pub comes : ComesTo (table_plan jobs prec) files.contents (Ok before)
  -- the file of edits, and what it gives
  pub bytes : List ℕ
  pub are_bytes : AreBytesOf files.contents edits bytes
  pub changes : List JobEdit
  pub text : EditsText before bytes changes
  pub table : Table
  pub edited : table ≡ with_edits before changes
  pub is_table : IsTable table
  pub readable : Readable second_version (text_of_graph table cores) (lines_of_graph table cores)
  pub short : length (text_of_graph table cores) ≤ MOST_CERTIFICATE_BYTES
  pub valid : Valid table cores (lines_of_graph table cores)
  pub printed : GrowsBy out.taken out'.taken (text_of_graph table cores)

-- where the words ask what edits would bring and it was done, the certificate of the graph of the edited table was printed
abbrev pub PrintsWhatIfs : List (List ℕ) → SeenFiles → SeenSink → SeenSink → Status → Type 0
PrintsWhatIfs words files out out' status = status ≡ statuses.Ok → (jobs edits : List ℕ) (prec : Option (List ℕ)) (cores budget : ℕ)
    → WordsOf words (commands.WhatIf jobs edits prec cores budget) → PrintsWhatIf jobs edits prec cores files out out'
