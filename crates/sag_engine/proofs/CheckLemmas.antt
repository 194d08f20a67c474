-- The command `check`: its yes is that of a certificate that it accepted.
use Rattle.std.proofs.Common.{ℕ, List, Result, Ok, Err}
use Rattle.sag_edge.specs.Reading.{SeenFiles}
use Rattle.sag_edge.specs.Writing.{SeenSink}
use Rattle.sag_words.specs.declared.command.Command.TheVariants as commands
use Rattle.sag_words.specs.Laws.{OneCommand}
use Rattle.cert_check.specs.AnswerTexts.{yes_text}
use Rattle.sag_engine.specs.declared.conclusion.Conclusion.{Conclusion}
use Rattle.sag_engine.specs.declared.halt.Halt.{Halt}
use Rattle.sag_engine.specs.declared.halt.Halt.TheVariants.{Usage, Refused, Read, Write, Memory}
use Rattle.sag_engine.specs.Work.Work.{Checks}
use Rattle.sag_engine.specs.Check.{PrintsYeses}
use Rattle.sag_engine.specs.RunEnds.{EndsWords, Works, run_status}
use Rattle.sag_engine.proofs.CertifiedLemmas.{prints_certified}

module _ (one_command : OneCommand) where
  prints_yeses : (words : List (List ℕ)) (f f' : SeenFiles) (o o' : SeenSink) (r : Result Conclusion Halt) → EndsWords words f f' o o' r → PrintsYeses words f o o' (run_status r)
  prints_yeses words f f' o o' (Ok conclusion) w is = λ jobs cert prec cores asked.
      let same = one_command words w.command (commands.Check jobs cert prec cores) w.asked asked in
      let runs = rw same at w.runs in
      prints_certified Checks yes_text (λ table end reply is. is) jobs cert prec cores f f' o o' conclusion runs is
  prints_yeses words f f' o o' (Err Usage) w is = absurd cc
  prints_yeses words f f' o o' (Err (Refused fault)) w is = absurd cc
  prints_yeses words f f' o o' (Err (Read kind)) w is = absurd cc
  prints_yeses words f f' o o' (Err Write) w is = absurd cc
  prints_yeses words f f' o o' (Err Memory) w is = absurd cc

  -- where the words ask for a check, and it ended with Ok, it said yes
  pub yeses_by : (words : List (List ℕ)) {f f' : SeenFiles} {o o' : SeenSink} {r : Result Conclusion Halt} → Works words f f' o o' r → PrintsYeses words f o o' (run_status r)
  yeses_by words {f = f} {f' = f'} {o = o} {o' = o'} {r = r} w = prints_yeses words f f' o o' r w.end
