-- What the command `gap` printed.
use Rattle.std.proofs.Common.{◌≡◌, ◌∙◌, ◌≤◌, ℕ, List, Option, None, Some, Result, Ok, Err, ap, subst, sym}
use Rattle.sag_edge.specs.Reading.{SeenFiles}
use Rattle.sag_edge.specs.Writing.{GrowsBy, SeenSink}
use Rattle.sag_words.specs.declared.command.Command.TheVariants as commands
use Rattle.sag_words.specs.Laws.{OneCommand}
use Rattle.job_model.specs.Table.{Table}
use Rattle.sag_graph.specs.Budget.{Spending, spent}
use Rattle.gap_trials.specs.GapMeaning.{AreGapRows}
use Rattle.gap_trials.specs.Laws.{GraphSpansHold, InnerEndsInSpans, NoGapOnOneCore, TrialsFit}
use Rattle.sag_engine.specs.declared.conclusion.Conclusion.{Conclusion}
use Rattle.sag_engine.specs.declared.halt.Halt.{Halt}
use Rattle.sag_engine.specs.declared.halt.Halt.TheVariants.{Usage, Refused, Read, Write, Memory}
use Rattle.sag_engine.specs.declared.status.Status.TheVariants as statuses
use Rattle.sag_engine.specs.Gap.{IsGapOutput, IsGapReply, PrintsGap, PrintsGaps, PrintsTrial, PrintsTrials, gap_plan}
use Rattle.sag_engine.specs.Commands.{Replies}
use Rattle.sag_engine.specs.RunEnds.{EndsWords, Runs, Works, conclusion_status, run_status}
use Rattle.sag_engine.specs.Work.{Reply, Work}
use Rattle.sag_engine.proofs.CommandLemmas.{asked_cores}
use Rattle.sag_engine.proofs.GapLemmas.{AcceptedGap, accepted_gap}

-- what is proved of trials, and of the rows that they come to
pub record GapLaws : Type 0 where
  pub trials_fit : TrialsFit
  pub graph_spans_hold : GraphSpansHold
  pub inner_ends_in_spans : InnerEndsInSpans
  pub no_gap_on_one_core : NoGapOnOneCore

-- where all was done, the bytes are those of the command
output_of : (table : Table) (m : ℕ) (trial : Option ℕ) (first : Option Spending) (reply : Reply) → IsGapReply table m trial first reply
    → conclusion_status reply.conclusion ≡ statuses.Ok → IsGapOutput table m trial reply.bytes
output_of table m trial None reply (bytes, are, is) ok = subst (λ b. IsGapOutput table m trial b) (sym (ap (λ (r : Reply). r.bytes) is)) are
output_of table m trial (Some s) reply is ok = absurd (cc (sym (ap (λ (r : Reply). conclusion_status r.conclusion) is) ∙ ok))

-- the bytes that a call printed, where it ended with Ok
record GapPrinted (jobs : List ℕ) (prec : Option (List ℕ)) (cores budget : ℕ) (trial : Option ℕ) (f : SeenFiles) (o o' : SeenSink) : Type 0 where
  work : Work
  accepted : AcceptedGap jobs prec cores budget trial f.contents work
  bytes : List ℕ
  output : IsGapOutput accepted.table cores trial bytes
  printed : GrowsBy o.taken o'.taken bytes

gap_printed : (jobs : List ℕ) (prec : Option (List ℕ)) (cores budget : ℕ) (trial : Option ℕ) (f f' : SeenFiles) (o o' : SeenSink) (conclusion : Conclusion)
    → conclusion_status conclusion ≡ statuses.Ok → Runs (gap_plan jobs prec cores budget trial) f f' o o' (Ok conclusion) → GapPrinted jobs prec cores budget trial f o o'
gap_printed jobs prec cores budget trial f f' o o' conclusion is w =
    let given = w.end.1 in
    let a = accepted_gap jobs prec cores budget trial f.contents given.work given.comes in
    let reply : IsGapReply a.table cores trial (spent a.table cores budget) w.end.0 = subst (λ x. Replies x w.end.0) a.work_is given.replies in
    record {
      work = given.work;
      accepted = a;
      bytes = w.end.0.bytes;
      output = output_of a.table cores trial (spent a.table cores budget) w.end.0 reply (ap conclusion_status (sym w.end.2) ∙ is);
      printed = w.end.3;
    }

module _ (one_command : OneCommand) (laws : GapLaws) where
  prints_gap : (jobs : List ℕ) (prec : Option (List ℕ)) (cores budget : ℕ) (f : SeenFiles) (o o' : SeenSink) → 1 ≤ cores
      → GapPrinted jobs prec cores budget None f o o' → PrintsGap jobs prec cores f o o'
  prints_gap jobs prec cores budget f o o' some_core p =
      let a = p.accepted in
      let (rows, are, is) : IsGapOutput a.table cores None p.bytes = p.output in
      record {
        table = a.table;
        comes = a.comes;
        is_table = a.is_table;
        rows = rows;
        are_rows = are;
        trials_fit = λ k within. laws.trials_fit a.table cores k a.is_table within;
        spans_hold = λ j row at. laws.graph_spans_hold a.table cores j (record { lo = row.bcct; hi = row.wcct }) a.is_table some_core (are.each j row at).span;
        in_spans = λ j row at. laws.inner_ends_in_spans a.table cores j rows row a.is_table some_core are at;
        no_gap = λ one no_edges j row at. laws.no_gap_on_one_core a.table j rows row a.is_table no_edges (subst (λ m. AreGapRows a.table m rows) one are) at;
        printed = subst (λ b. GrowsBy o.taken o'.taken b) is p.printed;
      }

  prints_trial : (jobs : List ℕ) (prec : Option (List ℕ)) (cores budget trial : ℕ) (f : SeenFiles) (o o' : SeenSink)
      → GapPrinted jobs prec cores budget (Some trial) f o o' → PrintsTrial jobs prec cores trial f o o'
  prints_trial jobs prec cores budget trial f o o' p =
      let a = p.accepted in
      record {
        table = a.table;
        comes = a.comes;
        is_table = a.is_table;
        is_trial = a.in_range;
        fits = laws.trials_fit a.table cores trial a.is_table a.in_range;
        printed = subst (λ b. GrowsBy o.taken o'.taken b) p.output p.printed;
      }

  prints_gaps : (words : List (List ℕ)) (f f' : SeenFiles) (o o' : SeenSink) (r : Result Conclusion Halt) → EndsWords words f f' o o' r → PrintsGaps words f o o' (run_status r)
  prints_gaps words f f' o o' (Ok conclusion) w is = λ jobs prec cores budget asked.
      let same = one_command words w.command (commands.Gap jobs prec cores budget None) w.asked asked in
      let runs = rw same at w.runs in
      let few = asked_cores words (commands.Gap jobs prec cores budget None) asked in
      prints_gap jobs prec cores budget f o o' few.0 (gap_printed jobs prec cores budget None f f' o o' conclusion is runs)
  prints_gaps words f f' o o' (Err Usage) w is = absurd cc
  prints_gaps words f f' o o' (Err (Refused fault)) w is = absurd cc
  prints_gaps words f f' o o' (Err (Read kind)) w is = absurd cc
  prints_gaps words f f' o o' (Err Write) w is = absurd cc
  prints_gaps words f f' o o' (Err Memory) w is = absurd cc

  prints_trials : (words : List (List ℕ)) (f f' : SeenFiles) (o o' : SeenSink) (r : Result Conclusion Halt) → EndsWords words f f' o o' r → PrintsTrials words f o o' (run_status r)
  prints_trials words f f' o o' (Ok conclusion) w is = λ jobs prec cores budget trial asked.
      let same = one_command words w.command (commands.Gap jobs prec cores budget (Some trial)) w.asked asked in
      let runs = rw same at w.runs in
      prints_trial jobs prec cores budget trial f o o' (gap_printed jobs prec cores budget (Some trial) f f' o o' conclusion is runs)
  prints_trials words f f' o o' (Err Usage) w is = absurd cc
  prints_trials words f f' o o' (Err (Refused fault)) w is = absurd cc
  prints_trials words f f' o o' (Err (Read kind)) w is = absurd cc
  prints_trials words f f' o o' (Err Write) w is = absurd cc
  prints_trials words f f' o o' (Err Memory) w is = absurd cc

  -- where the words ask for a comparison, and it was done, it was printed
  pub gaps_by : (words : List (List ℕ)) {f f' : SeenFiles} {o o' : SeenSink} {r : Result Conclusion Halt} → Works words f f' o o' r → PrintsGaps words f o o' (run_status r)
  gaps_by words {f = f} {f' = f'} {o = o} {o' = o'} {r = r} w = prints_gaps words f f' o o' r w.end

  -- where the words ask for a trial, and it was done, its scenario was printed
  pub trials_by : (words : List (List ℕ)) {f f' : SeenFiles} {o o' : SeenSink} {r : Result Conclusion Halt} → Works words f f' o o' r → PrintsTrials words f o o' (run_status r)
  trials_by words {f = f} {f' = f'} {o = o} {o' = o'} {r = r} w = prints_trials words f f' o o' r w.end
