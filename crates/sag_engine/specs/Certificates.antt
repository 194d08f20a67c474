-- How a certificate is judged.
--     CertificateJudged table m bytes end    what the check of a certificate comes to, or the place of a text fault
--     certificate_plan table m name          the certificate of a table is read, and checked
--     certified_plan work jobs cert prec m   the files of a command that checks a certificate, and the work that they come to
--     certified_files jobs cert prec         their kinds and names
--     certificate_reply text end             what is printed: this text of the jobs, or the first clause that is broken
--     PrintsCertified text ..                the certificate is valid, and this text of its jobs was printed
use Rattle.std.specs.Prelude.{ℕ, ◌≡◌, ◌≤◌, ◌++◌, List, [], ◌∷◌, length, Option, Result, Ok, Err}
use Rattle.sag_edge.specs.Reading.{SeenFiles}
use Rattle.sag_edge.specs.Writing.{SeenSink, GrowsBy}
use Rattle.job_model.specs.Table.{IsTable, Table}
use Rattle.cert_text.specs.declared.line.CertLine.{CertLine}
use Rattle.cert_text.specs.Grammar.{second_version}
use Rattle.cert_text.specs.Readable.{Readable}
use Rattle.cert_stream.specs.Lines.{IsTextFault}
use Rattle.graph_check.specs.Bounds.{HoldInEachRun}
use Rattle.graph_check.specs.Entries.{JobEntry}
use Rattle.graph_check.specs.Kept.{Failure}
use Rattle.graph_check.specs.Told.{job_entries}
use Rattle.graph_check.specs.Valid.{Valid}
use Rattle.cert_check.specs.AnswerTexts.{no_text}
use Rattle.cert_check.specs.Checks.{ReadsAs}
use Rattle.sag_texts.specs.declared.fault.FileKind.{FileKind}
use Rattle.sag_texts.specs.declared.fault.FileKind.TheVariants as kinds
use Rattle.sag_texts.specs.declared.fault.Fault.{Fault}
use Rattle.sag_texts.specs.declared.fault.Fault.TheVariants as faults
use Rattle.sag_engine.specs.declared.conclusion.Conclusion.TheVariants.{Done, No}
use Rattle.sag_engine.specs.declared.fetch.TheConstants.{MOST_CERTIFICATE_BYTES}
use Rattle.sag_engine.specs.Plan.{AreBytesOf, ComesTo, Plan, ◌>>=◌, file_plan, judged}
use Rattle.sag_engine.specs.Plan.Plan.{Ends}
use Rattle.sag_engine.specs.Inputs.{table_plan}
use Rattle.sag_engine.specs.Work.{Work, Reply, precedence_file}

-- The bytes are a readable certificate, and these are the intervals and marks of a valid one or the first failure; or they are
-- none, and this is the place of the text fault.
abbrev pub CertificateJudged : Table → ℕ → List ℕ → Result (Result (List JobEntry) Failure) Fault → Type 0
CertificateJudged table m bytes (Ok end) = ReadsAs table m bytes end
CertificateJudged table m bytes (Err fault) = (line : ℕ) × (byte : ℕ) × (fault ≡ faults.Text line byte) × IsTextFault second_version bytes line byte

-- the certificate of a table on so many cores
unfoldable pub certificate_plan : Table → ℕ → List ℕ → Plan (Result (Result (List JobEntry) Failure) Fault)
certificate_plan table m name = do
  bytes ← file_plan kinds.Certificate name MOST_CERTIFICATE_BYTES
  judged (CertificateJudged table m bytes)

-- the job file, the precedence file where one is named, and then the certificate, for so many cores
abbrev pub certified_plan : (Table → Result (List JobEntry) Failure → Work) → List ℕ → List ℕ → Option (List ℕ) → ℕ → Plan (Result Work Fault)
certified_plan work jobs cert prec cores = do
  table ← table_plan jobs prec
  end ← certificate_plan table cores cert
  Ends (Ok (work table end))

-- the kinds and names of these files
abbrev pub certified_files : List ℕ → List ℕ → Option (List ℕ) → List (FileKind × List ℕ)
certified_files jobs cert prec = (kinds.Jobs, jobs) ∷ precedence_file prec ++ (kinds.Certificate, cert) ∷ []

-- what is printed of a certificate: this text of its jobs, or the first clause that is broken
abbrev pub certificate_reply : (List JobEntry → List ℕ) → Result (List JobEntry) Failure → Reply
certificate_reply text (Ok jobs) = record { conclusion = Done; bytes = text jobs }
certificate_reply text (Err failure) = record { conclusion = No; bytes = no_text failure }

-- The certificate's bytes are readable, as lines that are valid for the table on so many cores, and this text of its jobs was
-- printed. In each legal run of every scenario each job finishes within its interval, and by its deadline where its mark is ok.
pub record PrintsCertified (text : Table → List JobEntry → List ℕ) (jobs cert : List ℕ) (prec : Option (List ℕ)) (cores : ℕ) (files : SeenFiles) (out out' : SeenSink) : Type 0 where
  pub table : Table
  pub comes : ComesTo (table_plan jobs prec) files.contents (Ok table)
  pub is_table : IsTable table
  pub bytes : List ℕ
  pub are : AreBytesOf files.contents cert bytes
  pub few : length bytes ≤ MOST_CERTIFICATE_BYTES
  pub lines : List CertLine
  pub readable : Readable second_version bytes lines
  pub valid : Valid table cores lines
  pub hold : HoldInEachRun table cores (job_entries lines)
  pub printed : GrowsBy out.taken out'.taken (text table (job_entries lines))
