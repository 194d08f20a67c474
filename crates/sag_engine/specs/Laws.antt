-- Laws of the top call: the words and the files fix the answer.
--     OneAnswer     over known files the words come to one outcome
--     WordsSuffice  words that ask for no command, or for a selftest, come to one outcome whatever files there are
--     SeenCall      what is seen of a call
--     IsAnswered    it ended with an answer, as its clauses say
--     HaveOneEnd    two calls have one status, one output and one text on the errors
--     CallsAgree    two calls that ended with an answer do, where the words and the bytes of the files are the same
use Rattle.std.specs.Prelude.{ℕ, ◌≡◌, List, Option, Some}
use Rattle.sag_edge.specs.Contents.{Contents}
use Rattle.sag_edge.specs.Reading.{SeenFiles}
use Rattle.sag_edge.specs.Writing.{SeenSink, GrowsBy}
use Rattle.sag_engine.specs.declared.status.Status.{Status}
use Rattle.sag_engine.specs.Promises as promise
use Rattle.sag_engine.specs.Promises.{Answers, ComesOut, Explains, Outcome, Told}
use Rattle.sag_engine.specs.Promises.Outcome.{NoCommand, Output}
use Rattle.sag_engine.specs.RunEnds.{AsksNothing}
use Rattle.sag_engine.specs.Selftest.{reply_of_selftest}
use Rattle.sag_words.specs.declared.command.Command.TheVariants as commands
use Rattle.sag_words.specs.Words.{WordsOf}

-- Over known files the words come to one outcome: to no command, to one refusal, or to one reply.
abbrev pub OneAnswer : Type 0
OneAnswer =
    (words : List (List ℕ)) (contents : Contents) (one other : Outcome) → ComesOut words (Some contents) one → ComesOut words (Some contents) other → one ≡ other

-- Words that ask for no command come to that, and words that ask for a selftest to its summary, whatever files there are, and
-- whether or not they are known.
pub record WordsSuffice : Type 0 where
  pub nothing : (words : List (List ℕ)) (m : Option Contents) (outcome : Outcome) → AsksNothing words → ComesOut words m outcome → outcome ≡ NoCommand
  pub selftest : (words : List (List ℕ)) (number cores : ℕ) (m : Option Contents) (outcome : Outcome) → WordsOf words (commands.Selftest number cores)
      → ComesOut words m outcome → outcome ≡ Output (reply_of_selftest number cores)

-- the files before a call, its sinks before and after it, and its status
pub record SeenCall : Type 0 where
  pub files : SeenFiles
  pub out : SeenSink
  pub out' : SeenSink
  pub err : SeenSink
  pub err' : SeenSink
  pub status : Status

-- the call ended with an answer, over files of these contents
pub record IsAnswered (words : List (List ℕ)) (contents : Contents) (call : SeenCall) : Type 0 where
  pub known : call.files.contents ≡ Some contents
  pub answered : promise.IsAnswered call.status
  pub answer : Answers words call.files call.out call.out' call.status
  pub text : Explains words call.files call.err call.err' call.status

-- one status, the same bytes appended to the outputs, and the same text told
pub record HaveOneEnd (one other : SeenCall) : Type 0 where
  pub status : one.status ≡ other.status
  pub output : List ℕ
  pub printed : GrowsBy one.out.taken one.out'.taken output
  pub printed_too : GrowsBy other.out.taken other.out'.taken output
  pub text : List ℕ
  pub told : Told text one.err one.err'
  pub told_too : Told text other.err other.err'

-- Two calls that ended with an answer have one end, where the words and the bytes of the files are the same.
abbrev pub CallsAgree : Type 0
CallsAgree = (words : List (List ℕ)) (contents : Contents) (one other : SeenCall) → IsAnswered words contents one → IsAnswered words contents other → HaveOneEnd one other
