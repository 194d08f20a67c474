-- The command `convert`.
--     ConversionJudged bytes end                what a certificate of the old version converts to, or the place of a text fault
--     conversion_plan name                      the certificate is read, and converted
--     convert_plan, convert_files               its file, and the work that it comes to
--     convert_reply text                        what is printed
--     PrintsConversion, PrintsConversions       the certificate that was converted, and what that means
use Rattle.std.specs.Prelude.{ℕ, ◌≡◌, ◌≤◌, List, [], ◌∷◌, length, Result, Ok, Err}
use Rattle.sag_edge.specs.Reading.{SeenFiles}
use Rattle.sag_edge.specs.Writing.{SeenSink, GrowsBy}
use Rattle.sag_texts.specs.declared.fault.FileKind.{FileKind}
use Rattle.sag_texts.specs.declared.fault.FileKind.TheVariants as kinds
use Rattle.sag_texts.specs.declared.fault.Fault.{Fault}
use Rattle.sag_texts.specs.declared.fault.Fault.TheVariants as faults
use Rattle.sag_words.specs.declared.command.Command.TheVariants as commands
use Rattle.sag_words.specs.Words.{WordsOf}
use Rattle.job_model.specs.Table.{Table}
use Rattle.cert_text.specs.declared.line.CertLine.{CertLine}
use Rattle.cert_text.specs.Grammar.{first_version, second_version}
use Rattle.cert_text.specs.Readable.{Readable}
use Rattle.cert_stream.specs.Lines.{IsTextFault}
use Rattle.cert_convert.specs.Conversions.{ConvertsTo, converted_text}
use Rattle.graph_check.specs.Old.{OldValid}
use Rattle.graph_check.specs.Valid.{Valid}
use Rattle.sag_engine.specs.declared.conclusion.Conclusion.TheVariants.{Done}
use Rattle.sag_engine.specs.declared.fetch.TheConstants.{MOST_CERTIFICATE_BYTES}
use Rattle.sag_engine.specs.declared.status.Status.{Status}
use Rattle.sag_engine.specs.declared.status.Status.TheVariants as statuses
use Rattle.sag_engine.specs.Plan.{AreBytesOf, Plan, ◌>>=◌, file_plan, judged}
use Rattle.sag_engine.specs.Plan.Plan.{Ends}
use Rattle.sag_engine.specs.Work.{Work, Reply}
use Rattle.sag_engine.specs.Work.Work.{Converts}

-- The bytes are a readable certificate of the old version, and this is the text of its lines in the new one; or they are none,
-- and this is the place of the text fault.
abbrev pub ConversionJudged : List ℕ → Result (List ℕ) Fault → Type 0
ConversionJudged bytes (Ok text) = ConvertsTo bytes text
ConversionJudged bytes (Err fault) = (line : ℕ) × (byte : ℕ) × (fault ≡ faults.Text line byte) × IsTextFault first_version bytes line byte

-- the certificate of that name
unfoldable pub conversion_plan : List ℕ → Plan (Result (List ℕ) Fault)
conversion_plan name = do
  bytes ← file_plan kinds.Certificate name MOST_CERTIFICATE_BYTES
  judged (ConversionJudged bytes)

-- its file, and the work that it comes to
abbrev pub convert_plan : List ℕ → Plan (Result Work Fault)
convert_plan cert = do
  text ← conversion_plan cert
  Ends (Ok (Converts text))

-- the kind and name of its file
abbrev pub convert_files : List ℕ → List (FileKind × List ℕ)
convert_files cert = (kinds.Certificate, cert) ∷ []

-- the whole text is printed
abbrev pub convert_reply : List ℕ → Reply
convert_reply text = record { conclusion = Done; bytes = text }

-- The certificate's bytes are readable by the old version, and the same lines were printed in the new one, by which they are
-- readable. Where they are valid by the old steps for a table on some number of cores, they are valid for them.
pub record PrintsConversion (cert : List ℕ) (files : SeenFiles) (out out' : SeenSink) : Type 0 where
  pub bytes : List ℕ
  pub are : AreBytesOf files.contents cert bytes
  pub few : length bytes ≤ MOST_CERTIFICATE_BYTES
  pub lines : List CertLine
  pub readable : Readable first_version bytes lines
  pub printed : GrowsBy out.taken out'.taken (converted_text lines)
  pub reads_again : Readable second_version (converted_text lines) lines
  pub stays_valid : (table : Table) (m : ℕ) → OldValid table m lines → Valid table m lines

-- where the words ask for a conversion and it was done, the lines of the certificate were printed in the new version
abbrev pub PrintsConversions : List (List ℕ) → SeenFiles → SeenSink → SeenSink → Status → Type 0
PrintsConversions words files out out' status = status ≡ statuses.Ok → (cert : List ℕ) → WordsOf words (commands.Convert cert) → PrintsConversion cert files out out'
