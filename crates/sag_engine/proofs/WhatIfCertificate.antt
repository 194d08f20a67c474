-- The certificate that was printed of an edited table.
use Rattle.std.proofs.Common.{◌≡◌, ◌∙◌, ◌≤◌, ℕ, List, Option, None, Some, Result, Ok, Err, ap, refl, sym, subst}
use Rattle.std.specs.Prelude.{IsNone, is_some}
use Rattle.sag_edge.specs.Reading.{SeenFiles}
use Rattle.sag_edge.specs.Writing.{GrowsBy, SeenSink}
use Rattle.sag_words.specs.declared.command.Command.TheVariants as commands
use Rattle.sag_words.specs.Laws.{OneCommand}
use Rattle.job_model.specs.declared.limits.TheConstants.{MOST_CORES}
use Rattle.job_model.specs.Table.{IsTable, Table}
use Rattle.sag_graph.specs.declared.TheConstants.{MOST_BUDGET}
use Rattle.sag_graph.specs.Budget.{Spending, spent}
use Rattle.side_csv.specs.declared.edits.JobEdit.{JobEdit}
use Rattle.what_if.specs.Edits.{with_edits}
use Rattle.what_if.specs.Laws.{EditsKeepTables}
use Rattle.sag_engine.specs.declared.conclusion.Conclusion.{Conclusion}
use Rattle.sag_engine.specs.declared.halt.Halt.{Halt}
use Rattle.sag_engine.specs.declared.halt.Halt.TheVariants.{Usage, Refused, Read, Write, Memory}
use Rattle.sag_engine.specs.declared.status.Status.TheVariants as statuses
use Rattle.sag_engine.specs.WhatIf.{PrintsWhatIf, PrintsWhatIfs, first_of_edits, whatif_plan, whatif_reply}
use Rattle.sag_engine.specs.Commands.{Replies}
use Rattle.sag_engine.specs.RunEnds.{EndsWords, Runs, Works, conclusion_status, run_status}
use Rattle.sag_engine.specs.Work.{Reply}
use Rattle.sag_engine.proofs.CommandLemmas.{asked_budget, asked_cores}
use Rattle.sag_engine.proofs.GraphCertificate.{GraphLaws}
use Rattle.sag_engine.proofs.WhatIfLemmas.{accepted_whatif, last_within}

-- where all was done, no graph exceeds the budget
none_spent : (table : Table) (changes : List JobEdit) (m : ℕ) (first : Option Spending) → conclusion_status (whatif_reply table changes m first).conclusion ≡ statuses.Ok → first ≡ None
none_spent table changes m None is = refl
none_spent table changes m (Some s) is = absurd (cc is)

module _ (one_command : OneCommand) (laws : GraphLaws) (keep_tables : EditsKeepTables) where
  prints_whatif : (jobs edits : List ℕ) (prec : Option (List ℕ)) (cores budget : ℕ) (f f' : SeenFiles) (o o' : SeenSink) (conclusion : Conclusion)
      → (1 ≤ cores) × (cores ≤ MOST_CORES) → budget ≤ MOST_BUDGET → conclusion_status conclusion ≡ statuses.Ok
      → Runs (whatif_plan jobs edits prec cores budget) f f' o o' (Ok conclusion) → PrintsWhatIf jobs edits prec cores f o o'
  prints_whatif jobs edits prec cores budget f f' o o' conclusion few small is w =
      let given = w.end.1 in
      let a = accepted_whatif jobs edits prec cores budget f.contents given.work given.comes in
      let reply = subst (λ v. Replies v w.end.0) a.work_is given.replies in
      let status = ap conclusion_status (sym (w.end.2 ∙ ap (λ (r : Reply). r.conclusion) reply)) ∙ is in
      let none = none_spent a.table a.changes cores (first_of_edits a.table a.changes cores budget) status in
      let table : Table = with_edits a.table a.changes in
      let is_table : IsTable table = keep_tables a.table a.changes a.is_table a.accepted.list.in_range a.accepted.list.costs in
      let within : IsNone (spent table cores budget) = ap is_some (last_within a.table a.changes cores budget none) in
      record {
        before = a.table;
        comes = a.comes;
        bytes = a.accepted.bytes;
        are_bytes = a.accepted.are_bytes;
        changes = a.changes;
        text = a.accepted.list.text;
        table = table;
        edited = refl;
        is_table = is_table;
        readable = laws.readable table cores budget is_table few.0 few.1 small within;
        short = laws.short table cores budget is_table few.0 few.1 small within;
        valid = laws.valid table cores is_table few.0;
        printed = subst (λ (r : Reply). GrowsBy o.taken o'.taken r.bytes) (reply ∙ ap (whatif_reply a.table a.changes cores) none) w.end.3;
      }

  prints_whatifs : (words : List (List ℕ)) (f f' : SeenFiles) (o o' : SeenSink) (r : Result Conclusion Halt) → EndsWords words f f' o o' r → PrintsWhatIfs words f o o' (run_status r)
  prints_whatifs words f f' o o' (Ok conclusion) w is = λ jobs edits prec cores budget asked.
      let same = one_command words w.command (commands.WhatIf jobs edits prec cores budget) w.asked asked in
      let runs = rw same at w.runs in
      let few = asked_cores words (commands.WhatIf jobs edits prec cores budget) asked in
      let small = asked_budget words (commands.WhatIf jobs edits prec cores budget) asked in
      prints_whatif jobs edits prec cores budget f f' o o' conclusion few small.1 is runs
  prints_whatifs words f f' o o' (Err Usage) w is = absurd cc
  prints_whatifs words f f' o o' (Err (Refused fault)) w is = absurd cc
  prints_whatifs words f f' o o' (Err (Read kind)) w is = absurd cc
  prints_whatifs words f f' o o' (Err Write) w is = absurd cc
  prints_whatifs words f f' o o' (Err Memory) w is = absurd cc

  -- where the words ask what edits would bring, and it was done, the certificate of the graph of the edited table was printed
  pub whatifs_by : (words : List (List ℕ)) {f f' : SeenFiles} {o o' : SeenSink} {r : Result Conclusion Halt} → Works words f f' o o' r → PrintsWhatIfs words f o o' (run_status r)
  whatifs_by words {f = f} {f' = f'} {o = o} {o' = o'} {r = r} w = prints_whatifs words f f' o o' r w.end
