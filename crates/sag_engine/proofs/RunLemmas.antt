-- From how the work ended to what the top call promises.
use Rattle.std.proofs.Common.{◌≡◌, ◌≤◌, ℕ, inl, inr, List, [], refl, ap, subst, arith, Result, Ok, Err, IsTrue}
use Rattle.sag_edge.specs.Reading.{SeenFiles}
use Rattle.sag_edge.specs.Writing.{SeenSink, GrowsBy, Puts}
use Rattle.sag_edge.proofs.WriteLemmas.{takes_none, tells_none, whole_prefix}
use Rattle.sag_texts.specs.declared.fault.FileKind.{FileKind}
use Rattle.sag_words.specs.declared.command.Command.{Command}
use Rattle.sag_words.specs.Words.{WordsOf}
use Rattle.sag_engine.specs.declared.conclusion.Conclusion.{Conclusion}
use Rattle.sag_engine.specs.declared.conclusion.Conclusion.TheVariants.{Done, No, Spent}
use Rattle.sag_engine.specs.declared.halt.Halt.{Halt}
use Rattle.sag_engine.specs.declared.halt.Halt.TheVariants.{Usage, Refused, Read, Write, Memory}
use Rattle.sag_engine.specs.declared.status.Status.TheVariants as statuses
use Rattle.sag_engine.specs.Commands.{command_plan}
use Rattle.sag_engine.specs.RunEnds.{AsksNothing, EndsWords, IsLater, Runs, RunsCommand, Works, conclusion_status, conclusion_text, run_status, run_text}
use Rattle.sag_engine.specs.Promises.{Answers, Explains, ExplainsFault, HasReadCause, HasWriteCause, IsDone, KeepsPrefix, KeepsTelling, ReadCause, Told}
use Rattle.sag_engine.specs.Promises.Outcome.{NoCommand, Refusal, Output}
use Rattle.sag_engine.proofs.CommandLemmas.{command_reads}

-- finished work is no fault, and no want of memory
no_read_fault : (v : Conclusion) → conclusion_status v ≡ statuses.ReadFault → ⊥
no_read_fault Done e = cc
no_read_fault No e = cc
no_read_fault (Spent level states edges) e = cc

no_write_fault : (v : Conclusion) → conclusion_status v ≡ statuses.WriteFault → ⊥
no_write_fault Done e = cc
no_write_fault No e = cc
no_write_fault (Spent level states edges) e = cc

no_memory : (v : Conclusion) → conclusion_status v ≡ statuses.Memory → ⊥
no_memory Done e = cc
no_memory No e = cc
no_memory (Spent level states edges) e = cc

module _ (words : List (List ℕ)) (f f' : SeenFiles) (o o' : SeenSink) where
  answers : (r : Result Conclusion Halt) → EndsWords words f f' o o' r → Answers words f o o' (run_status r)
  answers (Ok conclusion) w is =
      let e = w.runs.end in
      (Output e.0, (w.command, w.asked, e.1), ap conclusion_status e.2, e.3)
  answers (Err Usage) w is = (NoCommand, w.0, refl, w.1)
  answers (Err (Refused fault)) w is = (Refusal fault, (w.command, w.asked, w.runs.end.0), refl, w.runs.end.1)
  answers (Err (Read kind)) w is = absurd is
  answers (Err Write) w is = absurd is
  answers (Err Memory) w is = absurd is

  finished : (r : Result Conclusion Halt) → EndsWords words f f' o o' r → IsDone (run_status r) → IsTrue o'.finished
  finished (Ok conclusion) w is = w.runs.end.4
  finished (Err Usage) w is = absurd is
  finished (Err (Refused fault)) w is = absurd is
  finished (Err (Read kind)) w is = absurd is
  finished (Err Write) w is = absurd is
  finished (Err Memory) w is = absurd is

  read_cause : (kind : FileKind) → RunsCommand words f f' o o' (Err (Read kind)) → ReadCause words f f' kind
  read_cause kind w =
      let e = w.runs.end in
      record {
        rose = e.0;
        command = w.command;
        asked = w.asked;
        name = e.2.0;
        blamed = e.2.1;
        of_command = command_reads w.command f.contents kind e.2.0 e.2.2;
        next = e.2.2;
      }

  has_read_cause : (r : Result Conclusion Halt) → EndsWords words f f' o o' r → HasReadCause words f f' (run_status r)
  has_read_cause (Ok conclusion) w e = absurd (no_read_fault conclusion e)
  has_read_cause (Err Usage) w e = absurd cc
  has_read_cause (Err (Refused fault)) w e = absurd cc
  has_read_cause (Err (Read kind)) w e = (kind, read_cause kind w)
  has_read_cause (Err Write) w e = absurd cc
  has_read_cause (Err Memory) w e = absurd cc

  none_on_read_fault : (r : Result Conclusion Halt) → EndsWords words f f' o o' r → run_status r ≡ statuses.ReadFault → GrowsBy o.taken o'.taken []
  none_on_read_fault (Ok conclusion) w e = absurd (no_read_fault conclusion e)
  none_on_read_fault (Err Usage) w e = absurd cc
  none_on_read_fault (Err (Refused fault)) w e = absurd cc
  none_on_read_fault (Err (Read kind)) w e = w.runs.end.1
  none_on_read_fault (Err Write) w e = absurd cc
  none_on_read_fault (Err Memory) w e = absurd cc

  has_write_cause : (r : Result Conclusion Halt) → EndsWords words f f' o o' r → HasWriteCause words f o o' (run_status r)
  has_write_cause (Ok conclusion) w e = absurd (no_write_fault conclusion e)
  has_write_cause (Err Usage) w e = absurd cc
  has_write_cause (Err (Refused fault)) w e = absurd cc
  has_write_cause (Err (Read kind)) w e = absurd cc
  has_write_cause (Err Write) w e =
      let g = w.runs.end.1.1 in
      (w.runs.end.0, (w.command, w.asked, (g.work, g.comes)))
  has_write_cause (Err Memory) w e = absurd cc

  keeps_prefix : (r : Result Conclusion Halt) → EndsWords words f f' o o' r → KeepsPrefix words f o o'
  keeps_prefix (Ok conclusion) w =
      let e = w.runs.end in
      inr (e.0, (w.command, w.asked, e.1), whole_prefix o.taken o'.taken e.0.bytes e.3)
  keeps_prefix (Err Usage) w = inl w.1
  keeps_prefix (Err (Refused fault)) w = inl w.runs.end.1
  keeps_prefix (Err (Read kind)) w = inl w.runs.end.1
  keeps_prefix (Err Write) w =
      let e = w.runs.end.1 in
      inr (e.0, (w.command, w.asked, e.1), e.2)
  keeps_prefix (Err Memory) (inl none) = inl none
  keeps_prefix (Err Memory) (inr w) = elim w.runs.end [
    | inl none ↦ inl none
    | inr e ↦ inr (e.0, (w.command, w.asked, e.1), e.2)
  ]

  module _ (e e' : SeenSink) where
    explains : (r : Result Conclusion Halt) → EndsWords words f f' o o' r → Told (run_text r) e e' → Explains words f e e' (run_status r)
    explains (Ok conclusion) w t is =
        let end = w.runs.end in
        (Output end.0, (w.command, w.asked, end.1), ap conclusion_status end.2, subst (λ v. Told (conclusion_text v) e e') end.2 t)
    explains (Err Usage) w t is = (NoCommand, w.0, refl, t)
    explains (Err (Refused fault)) w t is = (Refusal fault, (w.command, w.asked, w.runs.end.0), refl, t)
    explains (Err (Read kind)) w t is = absurd is
    explains (Err Write) w t is = absurd is
    explains (Err Memory) w t is = absurd is

    explains_fault : (r : Result Conclusion Halt) → EndsWords words f f' o o' r → Told (run_text r) e e' → ExplainsFault words f f' e e' (run_status r)
    explains_fault (Ok conclusion) w t = record {
      read = λ x. absurd (no_read_fault conclusion x);
      write = λ x. absurd (no_write_fault conclusion x);
      memory = λ x. absurd (no_memory conclusion x);
    }
    explains_fault (Err Usage) w t = record { read = λ x. absurd cc; write = λ x. absurd cc; memory = λ x. absurd cc }
    explains_fault (Err (Refused fault)) w t = record { read = λ x. absurd cc; write = λ x. absurd cc; memory = λ x. absurd cc }
    explains_fault (Err (Read kind)) w t = record { read = λ x. (kind, read_cause kind w, t); write = λ x. absurd cc; memory = λ x. absurd cc }
    explains_fault (Err Write) w t = record { read = λ x. absurd cc; write = λ x. t; memory = λ x. absurd cc }
    explains_fault (Err Memory) w t = record { read = λ x. absurd cc; write = λ x. absurd cc; memory = λ x. t }

-- what goes to the errors, by a call that puts it there
pub told_by : {T E : Type 0} (a b : SeenSink) (x : List ℕ) (r : Result T E) → Puts a b x r → Told x a b
told_by a b x (Ok t) p = record { prefix = whole_prefix a.taken b.taken x p.ok; whole = λ n. p.ok; later = p.later; tells = p.tells }
told_by a b x (Err e) p = record { prefix = p.failed.1; whole = λ n. absurd (n p.failed.0); later = p.later; tells = p.tells }

-- nothing goes to the errors
pub told_nothing : (a : SeenSink) → Told [] a a
told_nothing a = record { prefix = (0, takes_none a.taken); whole = λ n. takes_none a.taken; later = omega arith; tells = tells_none a }

end_command : (words : List (List ℕ)) (f f' : SeenFiles) (o o' : SeenSink) (r : Result Conclusion Halt) → RunsCommand words f f' o o' r → EndsWords words f f' o o' r
end_command words f f' o o' (Ok conclusion) w = w
end_command words f f' o o' (Err Usage) w = absurd w.runs.end
end_command words f f' o o' (Err (Refused fault)) w = w
end_command words f f' o o' (Err (Read kind)) w = w
end_command words f f' o o' (Err Write) w = w
end_command words f f' o o' (Err Memory) w = inr w

-- the words ask for a command, and its work was done
pub works_command : (words : List (List ℕ)) (command : Command) (f f' : SeenFiles) (o o' : SeenSink) (r : Result Conclusion Halt) → WordsOf words command → Runs (command_plan command) f f' o o' r → Works words f f' o o' r
works_command words command f f' o o' r a w = record {
  later = w.later;
  tells = elim w.tells [ inl none ↦ inl none | inr t ↦ inr (t.0, (command, a, t.1), t.2) ];
  end = end_command words f f' o o' r (record { command = command; asked = a; runs = w });
}

-- nothing was read or printed yet
untouched : (f : SeenFiles) (o : SeenSink) → IsLater f f o o
untouched f o = record { contents = refl; of_files = omega arith; of_out = omega arith }

-- the words ask for no command
pub works_nothing : (words : List (List ℕ)) (f : SeenFiles) (o : SeenSink) → AsksNothing words → Works words f f o o (Err Usage)
works_nothing words f o n = record { later = untouched f o; tells = inl (tells_none o); end = (n, takes_none o.taken) }

-- memory ran out over the words
pub works_memory : (words : List (List ℕ)) (f : SeenFiles) (o : SeenSink) → Works words f f o o (Err Memory)
works_memory words f o = record { later = untouched f o; tells = inl (tells_none o); end = inl (takes_none o.taken) }

module _ (words : List (List ℕ)) {f f' : SeenFiles} {o o' : SeenSink} {r : Result Conclusion Halt} (w : Works words f f' o o' r) where
  pub answers_by : Answers words f o o' (run_status r)
  answers_by = answers words f f' o o' r w.end

  pub finished_by : IsDone (run_status r) → IsTrue o'.finished
  finished_by = finished words f f' o o' r w.end

  pub read_cause_by : HasReadCause words f f' (run_status r)
  read_cause_by = has_read_cause words f f' o o' r w.end

  pub none_on_read_fault_by : run_status r ≡ statuses.ReadFault → GrowsBy o.taken o'.taken []
  none_on_read_fault_by = none_on_read_fault words f f' o o' r w.end

  pub write_cause_by : HasWriteCause words f o o' (run_status r)
  write_cause_by = has_write_cause words f f' o o' r w.end

  pub prefix_by : KeepsPrefix words f o o'
  prefix_by = keeps_prefix words f f' o o' r w.end

  pub text_by : {e e' : SeenSink} → Told (run_text r) e e' → Explains words f e e' (run_status r)
  text_by {e = e} {e' = e'} t = explains words f f' o o' e e' r w.end t

  pub fault_text_by : {e e' : SeenSink} → Told (run_text r) e e' → ExplainsFault words f f' e e' (run_status r)
  fault_text_by {e = e} {e' = e'} t = explains_fault words f f' o o' e e' r w.end t

  pub contents_by : f'.contents ≡ f.contents
  contents_by = w.later.contents

  pub later_by : {e e' : SeenSink} {text : List ℕ} → Told text e e' → (f.faults ≤ f'.faults) × (o.faults ≤ o'.faults) × (e.faults ≤ e'.faults)
  later_by t = (w.later.of_files, w.later.of_out, t.later)

  pub tells_by : KeepsTelling words f o o'
  tells_by = w.tells
