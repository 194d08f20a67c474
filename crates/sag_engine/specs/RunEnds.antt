-- How the parts of a run of the program end.
--     Follows view plan old new result      a call that reads files did as the plan says, up to its result
--     Pours plan old new result Before After   a call handed on a file as the plan says
--     Judged view R result                  a call that judges bytes came to what R says
--     Writes bytes old new result           a call wrote these bytes, or the first of them where it stopped
--     Prints reply old new result           the same of a reply, with how the work ended
--     IsLater files files' out out'         the files stayed as they are, and no count of faults fell
--     Runs plan files files' out out' end   the whole work of a plan
--     Works words files files' out out' end the whole work of the words
--     conclusion_status, conclusion_text    the status of finished work, and the text that goes to the errors
--     run_status, halt_fault, run_text      the same of an end
use Rattle.std.specs.Prelude.{ℕ, ◌≡◌, ◌≤◌, ◌⊎◌, ◌++◌, List, [], Some, Result, Ok, Err, IfOk, IsTrue, OnOk, ⊤}
use Rattle.std.specs.declared.option.Option.{Option}
use Rattle.sag_edge.specs.Causes.{Rose}
use Rattle.sag_edge.specs.Contents.{Contents}
use Rattle.sag_edge.specs.Reading.{SeenFiles}
use Rattle.sag_edge.specs.Writing.{SeenSink, GrowsBy, GrowsByPrefix, StillTells}
use Rattle.sag_texts.specs.declared.fault.Fault.{Fault}
use Rattle.sag_texts.specs.declared.fault.Fault.TheVariants as faults
use Rattle.sag_texts.specs.FaultTexts.{fault_text, spent_text}
use Rattle.sag_words.specs.declared.command.Command.{Command}
use Rattle.sag_words.specs.Words.{WordsOf}
use Rattle.sag_engine.specs.declared.conclusion.Conclusion.{Conclusion}
use Rattle.sag_engine.specs.declared.conclusion.Conclusion.TheVariants.{Done, No, Spent}
use Rattle.sag_engine.specs.declared.halt.Halt.{Halt}
use Rattle.sag_engine.specs.declared.halt.Halt.TheVariants.{Usage, Refused, Read, Write, Memory}
use Rattle.sag_engine.specs.declared.status.Status.{Status}
use Rattle.sag_engine.specs.declared.status.Status.TheVariants as statuses
use Rattle.sag_engine.specs.Plan.{Plan, ComesTo, ReadsNext}
use Rattle.sag_engine.specs.Work.{Work, Reply}
use Rattle.sag_engine.specs.Commands.{Replies, command_plan}

-- how a call that reads files ended, by its plan
abbrev pub EndsBy : {T X : Type 0} → (T → X) → Plan (Result X Fault) → SeenFiles → SeenFiles → Result T Halt → Type 0
EndsBy view plan old new (Ok t) = ComesTo plan old.contents (Ok (view t))
EndsBy view plan old new (Err (Refused fault)) = ComesTo plan old.contents (Err fault)
EndsBy view plan old new (Err (Read kind)) =
    Rose old.faults new.faults × ((name : List ℕ) × (new.blamed ≡ Some name) × ReadsNext plan old.contents kind name)
EndsBy view plan old new (Err Memory) = ⊤
EndsBy view plan old new (Err Usage) = ⊥
EndsBy view plan old new (Err Write) = ⊥

-- a call that reads files did as the plan says
pub record Follows {T X : Type 0} (view : T → X) (plan : Plan (Result X Fault)) (old new : SeenFiles) (result : Result T Halt) : Type 0 where
  pub contents : new.contents ≡ old.contents
  pub later : old.faults ≤ new.faults
  pub end : EndsBy view plan old new result

-- A call handed on the bytes of a file, as the plan says. What has taken bytes before takes them behind those.
pub record Pours {T : Type 0} (plan : Plan (Result (List ℕ) Fault)) (old new : SeenFiles) (result : Result Unit Halt) (Before After : T → List ℕ → Type 0) : Type 0 where
  pub bytes : List ℕ
  pub follows : Follows (λ (u : Unit). bytes) plan old new result
  pub takes : OnOk result ((start : T) (front : List ℕ) → Before start front → After start (front ++ bytes))

-- how a call that judges bytes ended
abbrev pub EndsJudging : {T X : Type 0} → (T → X) → (Result X Fault → Type 0) → Result T Halt → Type 0
EndsJudging view Holds (Ok t) = Holds (Ok (view t))
EndsJudging view Holds (Err (Refused fault)) = Holds (Err fault)
EndsJudging view Holds (Err Memory) = ⊤
EndsJudging view Holds (Err Usage) = ⊥
EndsJudging view Holds (Err (Read kind)) = ⊥
EndsJudging view Holds (Err Write) = ⊥

-- a call that judges bytes accepts or refuses as the relation says
pub record Judged {T X : Type 0} (view : T → X) (Holds : Result X Fault → Type 0) (result : Result T Halt) : Type 0 where
  pub end : EndsJudging view Holds result

-- how a call that writes ended
abbrev pub EndsWriting : {T : Type 0} → List ℕ → SeenSink → SeenSink → Result T Halt → Type 0
EndsWriting bytes old new (Ok t) = GrowsBy old.taken new.taken bytes
EndsWriting bytes old new (Err Write) = Rose old.faults new.faults × GrowsByPrefix old.taken new.taken bytes
EndsWriting bytes old new (Err Memory) = GrowsByPrefix old.taken new.taken bytes
EndsWriting bytes old new (Err Usage) = ⊥
EndsWriting bytes old new (Err (Refused fault)) = ⊥
EndsWriting bytes old new (Err (Read kind)) = ⊥

-- a call wrote these bytes, or the first of them where it stopped
pub record Writes {T : Type 0} (bytes : List ℕ) (old new : SeenSink) (result : Result T Halt) : Type 0 where
  pub later : old.faults ≤ new.faults
  pub tells : StillTells old new bytes
  pub end : EndsWriting bytes old new result

-- a call printed this reply, or the first of its bytes where it stopped
pub record Prints (reply : Reply) (old new : SeenSink) (result : Result Conclusion Halt) : Type 0 where
  pub writes : Writes reply.bytes old new result
  pub conclusion : IfOk result (λ conclusion. (conclusion ≡ reply.conclusion) × IsTrue new.finished)

-- the plan comes to work for which this may be printed
pub record Gives (plan : Plan (Result Work Fault)) (m : Option Contents) (reply : Reply) : Type 0 where
  pub work : Work
  pub comes : ComesTo plan m (Ok work)
  pub replies : Replies work reply

-- how the work of a plan ended
abbrev pub EndsWork : Plan (Result Work Fault) → SeenFiles → SeenFiles → SeenSink → SeenSink → Result Conclusion Halt → Type 0
EndsWork plan files files' out out' (Ok conclusion) =
    (reply : Reply) × Gives plan files.contents reply × (conclusion ≡ reply.conclusion) × GrowsBy out.taken out'.taken reply.bytes × IsTrue out'.finished
EndsWork plan files files' out out' (Err (Refused fault)) = ComesTo plan files.contents (Err fault) × GrowsBy out.taken out'.taken []
EndsWork plan files files' out out' (Err (Read kind)) =
    Rose files.faults files'.faults × GrowsBy out.taken out'.taken [] × ((name : List ℕ) × (files'.blamed ≡ Some name) × ReadsNext plan files.contents kind name)
EndsWork plan files files' out out' (Err Write) =
    Rose out.faults out'.faults × ((reply : Reply) × Gives plan files.contents reply × GrowsByPrefix out.taken out'.taken reply.bytes)
EndsWork plan files files' out out' (Err Memory) =
    GrowsBy out.taken out'.taken [] ⊎ ((reply : Reply) × Gives plan files.contents reply × GrowsByPrefix out.taken out'.taken reply.bytes)
EndsWork plan files files' out out' (Err Usage) = ⊥

-- the files stayed as they are, and no count of faults fell
pub record IsLater (files files' : SeenFiles) (out out' : SeenSink) : Type 0 where
  pub contents : files'.contents ≡ files.contents
  pub of_files : files.faults ≤ files'.faults
  pub of_out : out.faults ≤ out'.faults

-- the output goes on telling its bytes where it has room for what may be printed
abbrev pub TellsReply : (Reply → Type 0) → SeenSink → SeenSink → Type 0
TellsReply MayBe out out' = StillTells out out' [] ⊎ ((reply : Reply) × MayBe reply × StillTells out out' reply.bytes)

-- the whole work of a plan
pub record Runs (plan : Plan (Result Work Fault)) (files files' : SeenFiles) (out out' : SeenSink) (result : Result Conclusion Halt) : Type 0 where
  pub later : IsLater files files' out out'
  pub tells : TellsReply (Gives plan files.contents) out out'
  pub end : EndsWork plan files files' out out' result

-- the words ask for no command
abbrev pub AsksNothing : List (List ℕ) → Type 0
AsksNothing words = (command : Command) → WordsOf words command → ⊥

-- the words ask for a command, and its work was done
pub record RunsCommand (words : List (List ℕ)) (files files' : SeenFiles) (out out' : SeenSink) (result : Result Conclusion Halt) : Type 0 where
  pub command : Command
  pub asked : WordsOf words command
  pub runs : Runs (command_plan command) files files' out out' result

-- how the work of the words ended
abbrev pub EndsWords : List (List ℕ) → SeenFiles → SeenFiles → SeenSink → SeenSink → Result Conclusion Halt → Type 0
EndsWords words files files' out out' (Ok conclusion) = RunsCommand words files files' out out' (Ok conclusion)
EndsWords words files files' out out' (Err Usage) = AsksNothing words × GrowsBy out.taken out'.taken []
EndsWords words files files' out out' (Err (Refused fault)) = RunsCommand words files files' out out' (Err (Refused fault))
EndsWords words files files' out out' (Err (Read kind)) = RunsCommand words files files' out out' (Err (Read kind))
EndsWords words files files' out out' (Err Write) = RunsCommand words files files' out out' (Err Write)
EndsWords words files files' out out' (Err Memory) = GrowsBy out.taken out'.taken [] ⊎ RunsCommand words files files' out out' (Err Memory)

-- the words ask for a command, whose work has this reply
abbrev pub HasReply : List (List ℕ) → Option Contents → Reply → Type 0
HasReply words m reply = (command : Command) × WordsOf words command × Gives (command_plan command) m reply

-- the whole work of the words
pub record Works (words : List (List ℕ)) (files files' : SeenFiles) (out out' : SeenSink) (result : Result Conclusion Halt) : Type 0 where
  pub later : IsLater files files' out out'
  pub tells : TellsReply (HasReply words files.contents) out out'
  pub end : EndsWords words files files' out out' result

-- the status of finished work
abbrev pub conclusion_status : Conclusion → Status
conclusion_status Done = statuses.Ok
conclusion_status No = statuses.No
conclusion_status (Spent level states edges) = statuses.Spent

-- what goes to the errors where the work was done: where the budget ended it, and else nothing
abbrev pub conclusion_text : Conclusion → List ℕ
conclusion_text Done = []
conclusion_text No = []
conclusion_text (Spent level states edges) = spent_text level states edges

-- the status of an end
abbrev pub run_status : Result Conclusion Halt → Status
run_status (Ok conclusion) = conclusion_status conclusion
run_status (Err Usage) = statuses.Usage
run_status (Err (Refused fault)) = statuses.Refused
run_status (Err (Read kind)) = statuses.ReadFault
run_status (Err Write) = statuses.WriteFault
run_status (Err Memory) = statuses.Memory

-- the fault that is told of a halt
abbrev pub halt_fault : Halt → Fault
halt_fault Usage = faults.Usage
halt_fault (Refused fault) = fault
halt_fault (Read kind) = faults.CannotRead kind
halt_fault Write = faults.CannotWrite
halt_fault Memory = faults.NoMemory

-- what goes to the errors
abbrev pub run_text : Result Conclusion Halt → List ℕ
run_text (Ok conclusion) = conclusion_text conclusion
run_text (Err halt) = fault_text (halt_fault halt)
