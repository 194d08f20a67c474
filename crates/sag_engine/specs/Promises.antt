-- What the top call promises.
--     texts words                  the words as lists of bytes
--     Outcome                      what the words come to: no command, a refusal, or a reply
--     ComesOut words m outcome     over the files m the words come to this
--     Answers .. Told              the other clauses
use Rattle.std.specs.Prelude.{ℕ, ◌≡◌, ◌≤◌, ◌⊎◌, List, [], String, map, string_bytes, Ok, Err, Option, Some, ⊤}
use Rattle.sag_edge.specs.Causes.{Rose}
use Rattle.sag_edge.specs.Contents.{Contents}
use Rattle.sag_edge.specs.Reading.{SeenFiles}
use Rattle.sag_edge.specs.Writing.{SeenSink, GrowsBy, GrowsByPrefix, StillTells}
use Rattle.sag_texts.specs.declared.fault.FileKind.{FileKind}
use Rattle.sag_texts.specs.declared.fault.Fault.{Fault}
use Rattle.sag_texts.specs.declared.fault.Fault.TheVariants as faults
use Rattle.sag_texts.specs.FaultTexts.{fault_text}
use Rattle.sag_words.specs.declared.command.Command.{Command}
use Rattle.sag_words.specs.Words.{WordsOf}
use Rattle.sag_engine.specs.declared.status.Status.{Status}
use Rattle.sag_engine.specs.declared.status.Status.TheVariants as statuses
use Rattle.sag_engine.specs.Plan.{ComesTo, ReadsNext}
use Rattle.sag_engine.specs.Work.{Work, Reply, IsAmongFiles}
use Rattle.sag_engine.specs.Commands.{command_plan, files_of}
use Rattle.sag_engine.specs.RunEnds.{Gives, AsksNothing, conclusion_status, conclusion_text}

-- the words as lists of bytes
abbrev pub texts : {A : Type 0} → List (String A) → List (List ℕ)
texts words = map string_bytes words

-- what the words come to
pub data Outcome : Type 0 where
  NoCommand : Outcome
  Refusal : Fault → Outcome
  Output : Reply → Outcome

-- Over these files the words come to this: they ask for no command; or they ask for one, whose files are refused, or come
-- to work for which this may be printed. Where the files are not known, over some bytes for each that is read.
abbrev pub ComesOut : List (List ℕ) → Option Contents → Outcome → Type 0
ComesOut words m NoCommand = AsksNothing words
ComesOut words m (Refusal fault) = (command : Command) × WordsOf words command × ComesTo (command_plan command) m (Err fault)
ComesOut words m (Output reply) = (command : Command) × WordsOf words command × Gives (command_plan command) m reply

-- the status of an outcome
abbrev pub outcome_status : Outcome → Status
outcome_status NoCommand = statuses.Usage
outcome_status (Refusal fault) = statuses.Refused
outcome_status (Output reply) = conclusion_status reply.conclusion

-- what goes to the output
abbrev pub outcome_bytes : Outcome → List ℕ
outcome_bytes NoCommand = []
outcome_bytes (Refusal fault) = []
outcome_bytes (Output reply) = reply.bytes

-- what goes to the errors
abbrev pub outcome_text : Outcome → List ℕ
outcome_text NoCommand = fault_text faults.Usage
outcome_text (Refusal fault) = fault_text fault
outcome_text (Output reply) = conclusion_text reply.conclusion

-- the status is no fault and no want of memory
abbrev pub IsAnswered : Status → Type 0
IsAnswered statuses.ReadFault = ⊥
IsAnswered statuses.WriteFault = ⊥
IsAnswered statuses.Memory = ⊥
IsAnswered other = ⊤

-- the work was done, so its output was finished
abbrev pub IsDone : Status → Type 0
IsDone statuses.Ok = ⊤
IsDone statuses.No = ⊤
IsDone statuses.Spent = ⊤
IsDone other = ⊥

-- the status, and the bytes that were appended, are those of what the words come to
abbrev pub Answers : List (List ℕ) → SeenFiles → SeenSink → SeenSink → Status → Type 0
Answers words files out out' status = IsAnswered status →
    (outcome : Outcome) × ComesOut words files.contents outcome × (status ≡ outcome_status outcome)
    × GrowsBy out.taken out'.taken (outcome_bytes outcome)

-- a fault of a file of the command, after the files before it were accepted
pub record ReadCause (words : List (List ℕ)) (files files' : SeenFiles) (kind : FileKind) : Type 0 where
  pub rose : Rose files.faults files'.faults
  pub command : Command
  pub asked : WordsOf words command
  pub name : List ℕ
  pub blamed : files'.blamed ≡ Some name
  pub of_command : IsAmongFiles (files_of command) kind name
  pub next : ReadsNext (command_plan command) files.contents kind name

abbrev pub HasReadCause : List (List ℕ) → SeenFiles → SeenFiles → Status → Type 0
HasReadCause words files files' status = status ≡ statuses.ReadFault → (kind : FileKind) × ReadCause words files files' kind

-- a fault of the output, after all files were accepted
abbrev pub HasWriteCause : List (List ℕ) → SeenFiles → SeenSink → SeenSink → Status → Type 0
HasWriteCause words files out out' status = status ≡ statuses.WriteFault → Rose out.faults out'.faults
    × ((command : Command) × WordsOf words command × ((work : Work) × ComesTo (command_plan command) files.contents (Ok work)))

-- what was appended is nothing, or the first bytes of what may be printed
abbrev pub KeepsPrefix : List (List ℕ) → SeenFiles → SeenSink → SeenSink → Type 0
KeepsPrefix words files out out' = GrowsBy out.taken out'.taken []
    ⊎ ((reply : Reply) × ComesOut words files.contents (Output reply) × GrowsByPrefix out.taken out'.taken reply.bytes)

-- The output goes on telling its bytes where it has room for what may be printed.
abbrev pub KeepsTelling : List (List ℕ) → SeenFiles → SeenSink → SeenSink → Type 0
KeepsTelling words files out out' = StillTells out out' []
    ⊎ ((reply : Reply) × ComesOut words files.contents (Output reply) × StillTells out out' reply.bytes)

-- these bytes went to the errors, or the first of them where a fault was counted; where there is room for them it goes on
-- telling
pub record Told (text : List ℕ) (old new : SeenSink) : Type 0 where
  pub prefix : GrowsByPrefix old.taken new.taken text
  pub whole : ¬ Rose old.faults new.faults → GrowsBy old.taken new.taken text
  pub later : old.faults ≤ new.faults
  pub tells : StillTells old new text

-- what went to the errors is the text of what the words come to
abbrev pub Explains : List (List ℕ) → SeenFiles → SeenSink → SeenSink → Status → Type 0
Explains words files err err' status = IsAnswered status →
    (outcome : Outcome) × ComesOut words files.contents outcome × (status ≡ outcome_status outcome) × Told (outcome_text outcome) err err'

-- on a fault, and on want of memory, it is the text of that status; on a fault of a file it names the kind of the blamed file
pub record ExplainsFault (words : List (List ℕ)) (files files' : SeenFiles) (err err' : SeenSink) (status : Status) : Type 0 where
  pub read : status ≡ statuses.ReadFault → (kind : FileKind) × ReadCause words files files' kind × Told (fault_text (faults.CannotRead kind)) err err'
  pub write : status ≡ statuses.WriteFault → Told (fault_text faults.CannotWrite) err err'
  pub memory : status ≡ statuses.Memory → Told (fault_text faults.NoMemory) err err'
