-- The words and the bytes of the files fix the answer.
use Rattle.std.proofs.Common.{◌≡◌, ◌∙◌, ℕ, List, Some, Result, Ok, Err, refl, sym, ap, subst}
use Rattle.sag_edge.specs.Contents.{Contents}
use Rattle.sag_edge.specs.Writing.{GrowsBy}
use Rattle.sag_texts.specs.declared.fault.Fault.{Fault}
use Rattle.sag_words.specs.declared.command.Command.{Command}
use Rattle.sag_words.specs.Words.{WordsOf}
use Rattle.sag_engine.specs.Plan.{ComesTo}
use Rattle.sag_engine.specs.Work.{Work}
use Rattle.sag_engine.specs.Commands.{command_plan}
use Rattle.sag_engine.specs.RunEnds.{Gives}
use Rattle.sag_engine.specs.Laws.{HaveOneEnd, IsAnswered, OneAnswer, SeenCall}
use Rattle.sag_engine.specs.Promises.{ComesOut, Told, outcome_bytes, outcome_status, outcome_text}
use Rattle.sag_engine.specs.Promises.Outcome.{NoCommand, Refusal, Output}
use Rattle.sag_engine.proofs.CommandLemmas.{CommandLaws, asked_cores, command_one, one_reply}

module _ (laws : CommandLaws) where
  one_command_for : (words : List (List ℕ)) (one other : Command) → WordsOf words one → WordsOf words other → other ≡ one
  one_command_for words one other asked asked' = laws.one_command words other one asked' asked

  pub one_answer : OneAnswer
  one_answer words contents NoCommand NoCommand a b = refl
  one_answer words contents NoCommand (Refusal fault) none (command, asked, comes) = absurd (none command asked)
  one_answer words contents NoCommand (Output reply) none (command, asked, gives) = absurd (none command asked)
  one_answer words contents (Refusal fault) NoCommand (command, asked, comes) none = absurd (none command asked)
  one_answer words contents (Output reply) NoCommand (command, asked, gives) none = absurd (none command asked)
  one_answer words contents (Refusal f) (Refusal g) (command, asked, comes) (command', asked', comes') =
      let same = one_command_for words command command' asked asked' in
      let faults : ◌≡◌ {A = Result Work Fault} (Err f) (Err g) = (command_one laws contents command).one (Err f) (Err g) comes (subst (λ c. ComesTo (command_plan c) (Some contents) (Err g)) same comes') in
      let fault : f ≡ g = cc faults in
      ap Refusal fault
  one_answer words contents (Refusal f) (Output reply) (command, asked, comes) (command', asked', gives) =
      let same = one_command_for words command command' asked asked' in
      let both : ◌≡◌ {A = Result Work Fault} (Err f) (Ok gives.work) = (command_one laws contents command).one (Err f) (Ok gives.work) comes (subst (λ c. ComesTo (command_plan c) (Some contents) (Ok gives.work)) same gives.comes) in
      absurd (cc both)
  one_answer words contents (Output reply) (Refusal f) (command, asked, gives) (command', asked', comes) =
      let same = one_command_for words command' command asked' asked in
      let both : ◌≡◌ {A = Result Work Fault} (Err f) (Ok gives.work) = (command_one laws contents command').one (Err f) (Ok gives.work) comes (subst (λ c. ComesTo (command_plan c) (Some contents) (Ok gives.work)) same gives.comes) in
      absurd (cc both)
  one_answer words contents (Output r) (Output s) (command, asked, gives) (command', asked', gives') =
      let same = one_command_for words command command' asked asked' in
      ap Output (one_reply laws contents command (asked_cores words command asked) r s gives (subst (λ c. Gives (command_plan c) (Some contents) s) same gives'))

-- two calls that ended with an answer have one end
pub calls_agree : OneAnswer → (words : List (List ℕ)) (contents : Contents) (one other : SeenCall) → IsAnswered words contents one → IsAnswered words contents other → HaveOneEnd one other
calls_agree one_answer words contents one other a b =
    let (outcome, comes, status, printed) = a.answer a.answered in
    let (outcome', comes', status', printed') = b.answer b.answered in
    let (told_outcome, told_comes, told_status, told) = a.text a.answered in
    let (told_outcome', told_comes', told_status', told') = b.text b.answered in
    let known = subst (λ m. ComesOut words m outcome) a.known comes in
    let known' = subst (λ m. ComesOut words m outcome') b.known comes' in
    let answer : outcome' ≡ outcome = one_answer words contents outcome' outcome known' known in
    let told_known = subst (λ m. ComesOut words m told_outcome) a.known told_comes in
    let told_known' = subst (λ m. ComesOut words m told_outcome') b.known told_comes' in
    let text : told_outcome' ≡ told_outcome = one_answer words contents told_outcome' told_outcome told_known' told_known in
    record {
      status = status ∙ ap outcome_status (sym answer) ∙ sym status';
      output = outcome_bytes outcome;
      printed = printed;
      printed_too = subst (λ o. GrowsBy other.out.taken other.out'.taken (outcome_bytes o)) answer printed';
      text = outcome_text told_outcome;
      told = told;
      told_too = subst (λ o. Told (outcome_text o) other.err other.err') text told';
    }
