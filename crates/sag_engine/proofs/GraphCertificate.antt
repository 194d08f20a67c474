-- The certificate that an analysis printed.
use Rattle.std.proofs.Common.{◌≡◌, ◌∙◌, ◌≤◌, ℕ, List, Option, None, Some, Result, Ok, Err, ap, refl, sym, subst}
use Rattle.std.specs.Prelude.{IsNone, is_some}
use Rattle.sag_edge.specs.Reading.{SeenFiles}
use Rattle.sag_edge.specs.Writing.{GrowsBy, SeenSink}
use Rattle.sag_words.specs.declared.command.Command.TheVariants as commands
use Rattle.sag_words.specs.Laws.{OneCommand}
use Rattle.job_model.specs.declared.limits.TheConstants.{MOST_CORES}
use Rattle.job_model.specs.Table.{Table}
use Rattle.sag_graph.specs.declared.TheConstants.{MOST_BUDGET}
use Rattle.sag_graph.specs.Budget.{Spending, spent}
use Rattle.graph_valid.specs.Laws.{GraphIsReadable, GraphIsShort, GraphIsValid}
use Rattle.sag_engine.specs.declared.conclusion.Conclusion.{Conclusion}
use Rattle.sag_engine.specs.declared.halt.Halt.{Halt}
use Rattle.sag_engine.specs.declared.halt.Halt.TheVariants.{Usage, Refused, Read, Write, Memory}
use Rattle.sag_engine.specs.declared.status.Status.TheVariants as statuses
use Rattle.sag_engine.specs.Analyse.{PrintsCertificate, PrintsCertificates, analyse_plan, analysis_reply}
use Rattle.sag_engine.specs.Commands.{Replies}
use Rattle.sag_engine.specs.RunEnds.{EndsWords, Runs, Works, conclusion_status, run_status}
use Rattle.sag_engine.specs.Work.{Reply}
use Rattle.sag_engine.proofs.AnalyseLemmas.{accepted_analysis}
use Rattle.sag_engine.proofs.CommandLemmas.{asked_budget, asked_cores}

-- what is proved of the certificate of a graph
pub record GraphLaws : Type 0 where
  pub valid : GraphIsValid
  pub readable : GraphIsReadable
  pub short : GraphIsShort

-- where all was done, no offer exceeds the budget
none_spent : (table : Table) (m : ℕ) (first : Option Spending) → conclusion_status (analysis_reply table m first).conclusion ≡ statuses.Ok → first ≡ None
none_spent table m None is = refl
none_spent table m (Some s) is = absurd (cc is)

module _ (one_command : OneCommand) (laws : GraphLaws) where
  prints_certificate : (jobs : List ℕ) (prec : Option (List ℕ)) (cores budget : ℕ) (f f' : SeenFiles) (o o' : SeenSink) (conclusion : Conclusion)
      → (1 ≤ cores) × (cores ≤ MOST_CORES) → budget ≤ MOST_BUDGET → conclusion_status conclusion ≡ statuses.Ok
      → Runs (analyse_plan jobs prec cores budget) f f' o o' (Ok conclusion) → PrintsCertificate jobs prec cores f o o'
  prints_certificate jobs prec cores budget f f' o o' conclusion few small is w =
      let given = w.end.1 in
      let accepted = accepted_analysis jobs prec cores budget f.contents given.work given.comes in
      let reply = subst (λ v. Replies v w.end.0) accepted.work_is given.replies in
      let status = ap conclusion_status (sym (w.end.2 ∙ ap (λ (r : Reply). r.conclusion) reply)) ∙ is in
      let none = none_spent accepted.table cores (spent accepted.table cores budget) status in
      let within : IsNone (spent accepted.table cores budget) = ap is_some none in
      let printed = subst (λ (r : Reply). GrowsBy o.taken o'.taken r.bytes) (reply ∙ ap (analysis_reply accepted.table cores) none) w.end.3 in
      record {
        table = accepted.table;
        comes = accepted.comes;
        is_table = accepted.is_table;
        readable = laws.readable accepted.table cores budget accepted.is_table few.0 few.1 small within;
        short = laws.short accepted.table cores budget accepted.is_table few.0 few.1 small within;
        valid = laws.valid accepted.table cores accepted.is_table few.0;
        printed = printed;
      }

  prints_certificates : (words : List (List ℕ)) (f f' : SeenFiles) (o o' : SeenSink) (r : Result Conclusion Halt) → EndsWords words f f' o o' r → PrintsCertificates words f o o' (run_status r)
  prints_certificates words f f' o o' (Ok conclusion) w is = λ jobs prec cores budget asked.
      let same = one_command words w.command (commands.Analyse jobs prec cores budget) w.asked asked in
      let runs = rw same at w.runs in
      let few = asked_cores words (commands.Analyse jobs prec cores budget) asked in
      let small = asked_budget words (commands.Analyse jobs prec cores budget) asked in
      prints_certificate jobs prec cores budget f f' o o' conclusion few small.1 is runs
  prints_certificates words f f' o o' (Err Usage) w is = absurd cc
  prints_certificates words f f' o o' (Err (Refused fault)) w is = absurd cc
  prints_certificates words f f' o o' (Err (Read kind)) w is = absurd cc
  prints_certificates words f f' o o' (Err Write) w is = absurd cc
  prints_certificates words f f' o o' (Err Memory) w is = absurd cc

  -- where the words ask for an analysis and it was done, the certificate of the graph was printed
  pub certificates_by : (words : List (List ℕ)) {f f' : SeenFiles} {o o' : SeenSink} {r : Result Conclusion Halt} → Works words f f' o o' r → PrintsCertificates words f o o' (run_status r)
  certificates_by words {f = f} {f' = f'} {o = o} {o' = o'} {r = r} w = prints_certificates words f f' o o' r w.end
