-- The command `replay`: what its files come to, which it reads, the run that it prints, and that there is one.
use Rattle.std.proofs.Common.{◌≡◌, ◌∙◌, ◌∷◌, ℕ, inl, inr, List, [], Option, Some, Result, Ok, Err, refl, sym, subst}
use Rattle.sag_edge.specs.Contents.{Contents}
use Rattle.sag_edge.specs.Reading.{SeenFiles}
use Rattle.sag_edge.specs.Writing.{SeenSink}
use Rattle.sag_texts.specs.declared.fault.FileKind.{FileKind}
use Rattle.sag_texts.specs.declared.fault.FileKind.TheVariants as kinds
use Rattle.sag_texts.specs.declared.fault.Fault.{Fault}
use Rattle.sag_words.specs.declared.command.Command.TheVariants as commands
use Rattle.sag_words.specs.Laws.{OneCommand}
use Rattle.job_model.specs.Table.{Table, IsTable}
use Rattle.job_model.specs.Scenario.{Fits}
use Rattle.run_meaning.specs.Laws.{OneRun, StartsAgree}
use Rattle.sag_engine.specs.declared.conclusion.Conclusion.{Conclusion}
use Rattle.sag_engine.specs.declared.halt.Halt.{Halt}
use Rattle.sag_engine.specs.declared.halt.Halt.TheVariants.{Usage, Refused, Read, Write, Memory}
use Rattle.sag_engine.specs.Plan.{ComesTo, ReadsNext}
use Rattle.sag_engine.specs.Plan.Plan.{Ends}
use Rattle.sag_engine.specs.Inputs.{scenario_plan, table_plan}
use Rattle.sag_engine.specs.Work.{IsAmongFiles, Reply, Work, precedence_file}
use Rattle.sag_engine.specs.Work.Work.{Replays}
use Rattle.sag_engine.specs.Replay.{PrintsRun, PrintsRuns, replay_files, replay_plan}
use Rattle.sag_engine.specs.Commands.{Replies}
use Rattle.sag_engine.specs.RunEnds.{EndsWords, Gives, Runs, Works, run_status}
use Rattle.sag_engine.proofs.FileLemmas.{among_first, among_more, reads_split, scenario_reads, table_reads}
use Rattle.sag_engine.proofs.InputLemmas.{accepted_fits, accepted_table}
use Rattle.sag_engine.proofs.OneInputs.{scenario_one, table_one}
use Rattle.sag_engine.proofs.OneJudgement.{FileLaws}
use Rattle.sag_engine.proofs.OnePlan.{IsOne, ends_one, then_one}
use Rattle.sag_engine.proofs.PlanLemmas.{comes_split}

-- what a replay comes to: the run of a scenario that fits its table, on the cores of the command
pub record AcceptedRun (cores : ℕ) (work : Work) : Type 0 where
  pub table : Table
  pub rows : List (ℕ × ℕ)
  pub is_table : IsTable table
  pub fits : Fits table rows
  pub work_is : work ≡ Replays table cores rows

pub accepted_run : (jobs scenario : List ℕ) (prec : Option (List ℕ)) (cores : ℕ) (m : Option Contents) (work : Work)
    → ComesTo (replay_plan jobs scenario prec cores) m (Ok work) → AcceptedRun cores work
accepted_run jobs scenario prec cores m work h =
    let s = comes_split (table_plan jobs prec) _ m work h in
    let r = comes_split (scenario_plan s.0 scenario) _ m work s.2 in
    record {
      table = s.0;
      rows = r.0;
      is_table = accepted_table jobs prec m s.0 s.1;
      fits = accepted_fits s.0 scenario m r.0 r.1;
      work_is = let same : Replays s.0 cores r.0 ≡ work = cc in sym same;
    }

-- the files that it reads are those that its words name
pub replay_reads : (jobs scenario : List ℕ) (prec : Option (List ℕ)) (cores : ℕ) (m : Option Contents) (k : FileKind) (n : List ℕ)
    → ReadsNext (replay_plan jobs scenario prec cores) m k n → IsAmongFiles (replay_files jobs scenario prec) k n
replay_reads jobs scenario prec cores m k n h =
    let table_files : List (FileKind × List ℕ) = (kinds.Jobs, jobs) ∷ precedence_file prec in
    let scenario_files : List (FileKind × List ℕ) = (kinds.Scenario, scenario) ∷ [] in
    elim (reads_split (table_plan jobs prec) _ m k n h) [
      | inl x ↦ among_first table_files scenario_files k n (table_reads jobs prec m k n x)
      | inr x ↦ elim (reads_split (scenario_plan x.0 scenario) (λ rows. Ends (Ok (Replays x.0 cores rows))) m k n x.1) [
        | inl y ↦ among_more table_files scenario_files k n (inl (scenario_reads x.0 scenario m k n y))
        | inr y ↦ absurd y.1
      ]
    ]

-- its files fix its work, or its refusal
pub replay_one : FileLaws → (contents : Contents) (jobs scenario : List ℕ) (prec : Option (List ℕ)) (cores : ℕ) → IsOne contents (replay_plan jobs scenario prec cores)
replay_one laws contents jobs scenario prec cores = then_one contents (table_plan jobs prec) _ (table_one laws contents jobs prec)
    (λ table comes. then_one contents (scenario_plan table scenario) _ (scenario_one laws contents table (accepted_table jobs prec (Some contents) table comes) scenario)
    (λ rows comes'. ends_one contents (Ok (Replays table cores rows))))

-- its work has one reply
pub one_run_reply : FileLaws → OneRun → (contents : Contents) (jobs scenario : List ℕ) (prec : Option (List ℕ)) (cores : ℕ) (r s : Reply)
    → Gives (replay_plan jobs scenario prec cores) (Some contents) r → Gives (replay_plan jobs scenario prec cores) (Some contents) s → r ≡ s
one_run_reply laws one_run contents jobs scenario prec cores r s a b =
    let works : ◌≡◌ {A = Result Work Fault} (Ok b.work) (Ok a.work) = (replay_one laws contents jobs scenario prec cores).one (Ok b.work) (Ok a.work) b.comes a.comes in
    let work : b.work ≡ a.work = cc works in
    let run = accepted_run jobs scenario prec cores (Some contents) a.work a.comes in
    let (schedule, legal, lowest, is) = subst (λ w. Replies w r) run.work_is a.replies in
    let (schedule', legal', lowest', is') = subst (λ w. Replies w s) (work ∙ run.work_is) b.replies in
    let same : schedule ≡ schedule' = one_run run.table cores run.rows schedule schedule' run.is_table run.fits legal legal' lowest lowest' in
    rw (is, is', same) refl

module _ (one_command : OneCommand) (one_run : OneRun) (starts_agree : StartsAgree) where
  -- the run that was printed
  prints_run : (jobs scenario : List ℕ) (prec : Option (List ℕ)) (cores : ℕ) (f f' : SeenFiles) (o o' : SeenSink) (conclusion : Conclusion)
      → Runs (replay_plan jobs scenario prec cores) f f' o o' (Ok conclusion) → PrintsRun jobs scenario prec cores f o o'
  prints_run jobs scenario prec cores f f' o o' conclusion w =
      let given = w.end.1 in
      let run = accepted_run jobs scenario prec cores f.contents given.work given.comes in
      let replies = rw run.work_is at given.replies in
      let printed = w.end.3 in
      record {
        table = run.table;
        rows = run.rows;
        comes = rw run.work_is at given.comes;
        is_table = run.is_table;
        fits = run.fits;
        schedule = replies.0;
        legal = replies.1;
        lowest_idle = replies.2;
        same_starts = λ other legal j within. starts_agree run.table cores run.rows other replies.0 run.is_table run.fits legal replies.1 j within;
        one_run = λ other legal lowest. one_run run.table cores run.rows other replies.0 run.is_table run.fits legal replies.1 lowest replies.2;
        printed = rw replies.3 at printed;
      }

  prints_runs : (words : List (List ℕ)) (f f' : SeenFiles) (o o' : SeenSink) (r : Result Conclusion Halt) → EndsWords words f f' o o' r → PrintsRuns words f o o' (run_status r)
  prints_runs words f f' o o' (Ok conclusion) w is = λ jobs scenario prec cores asked.
      let same = one_command words w.command (commands.Replay jobs scenario prec cores) w.asked asked in
      let runs = rw same at w.runs in
      prints_run jobs scenario prec cores f f' o o' conclusion runs
  prints_runs words f f' o o' (Err Usage) w is = absurd cc
  prints_runs words f f' o o' (Err (Refused fault)) w is = absurd cc
  prints_runs words f f' o o' (Err (Read kind)) w is = absurd cc
  prints_runs words f f' o o' (Err Write) w is = absurd cc
  prints_runs words f f' o o' (Err Memory) w is = absurd cc

  -- where the words ask for a replay and it was done, the run of its scenario was printed
  pub runs_by : (words : List (List ℕ)) {f f' : SeenFiles} {o o' : SeenSink} {r : Result Conclusion Halt} → Works words f f' o o' r → PrintsRuns words f o o' (run_status r)
  runs_by words {f = f} {f' = f'} {o = o} {o' = o'} {r = r} w = prints_runs words f f' o o' r w.end
