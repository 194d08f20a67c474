-- The command `attain`: what its file comes to, which it reads, that it has one reply, and what it means.
use Rattle.std.proofs.Common.{◌≡◌, ◌∙◌, ◌<◌, ℕ, inl, inr, List, [], Option, None, Some, Result, Ok, Err, IsTrue, ap, arith, length, map, refl, subst, sym}
use Rattle.std.proofs.lemmas.Bool.{cases_lt}
use Rattle.std.proofs.lemmas.List.{get_or-map, length-map}
use Rattle.std.specs.Prelude.{Contains, IfOk, is_some, slice_index_or}
use Rattle.std.specs.Option.{option_map_or}
use Rattle.sag_edge.specs.Contents.{Contents}
use Rattle.sag_edge.specs.Reading.{SeenFiles}
use Rattle.sag_edge.specs.Writing.{GrowsBy, SeenSink}
use Rattle.sag_texts.specs.declared.fault.FileKind.{FileKind}
use Rattle.sag_texts.specs.declared.fault.Fault.{Fault}
use Rattle.sag_words.specs.declared.command.Command.TheVariants as commands
use Rattle.sag_words.specs.Laws.{OneCommand}
use Rattle.sag_time.specs.Interval.{Interval}
use Rattle.job_model.specs.declared.interval_end.End.{End}
use Rattle.job_model.specs.Table.{IsTable, Table, id_of, job_at, no_job}
use Rattle.graph_memory.specs.JobLines.{JobLinesTellSpans}
use Rattle.one_core.specs.Extreme.{extreme, own_end}
use Rattle.one_core.specs.Laws.{EndsAreAttained}
use Rattle.sag_graph.specs.Budget.{Spending, spent}
use Rattle.sag_graph.specs.Graph.{graph_of}
use Rattle.side_csv.specs.ScenarioRows.{scenario_text}
use Rattle.sag_engine.specs.declared.conclusion.Conclusion.{Conclusion}
use Rattle.sag_engine.specs.declared.conclusion.Conclusion.TheVariants.{Done, Spent}
use Rattle.sag_engine.specs.declared.halt.Halt.{Halt}
use Rattle.sag_engine.specs.declared.halt.Halt.TheVariants.{Usage, Refused, Read, Write, Memory}
use Rattle.sag_engine.specs.declared.status.Status.TheVariants as statuses
use Rattle.sag_engine.specs.Attain.{JobNamed, PrintsEnd, PrintsEnds, attain_files, attain_plan, attain_reply, job_plan}
use Rattle.sag_engine.specs.Plan.{ComesTo, ReadsNext}
use Rattle.sag_engine.specs.Plan.Plan.{Ends}
use Rattle.sag_engine.specs.Inputs.{jobs_plan, precedence_plan, table_plan}
use Rattle.sag_engine.specs.Work.{IsAmongFiles, Reply, Work}
use Rattle.sag_engine.specs.Work.Work.{Attains}
use Rattle.sag_engine.specs.Commands.{Replies}
use Rattle.sag_engine.specs.RunEnds.{EndsWords, Gives, Prints, Runs, Works, Writes, conclusion_status, run_status}
use Rattle.sag_engine.proofs.FileLemmas.{reads_split, table_reads}
use Rattle.sag_engine.proofs.InputLemmas.{accepted_no_edges, accepted_table}
use Rattle.sag_engine.proofs.OneInputs.{table_one}
use Rattle.sag_engine.proofs.OneJudgement.{FileLaws}
use Rattle.sag_engine.proofs.OnePlan.{IsOne, ends_one, judged_one, then_one}
use Rattle.sag_engine.proofs.PlanLemmas.{comes_split, judged_so}

-- ---- what is known of a job file in which the job is

-- without a precedence file the table has no edges
pub table_no_edges : (jobs : List ℕ) (m : Option Contents) (table : Table) → ComesTo (table_plan jobs None) m (Ok table) → table.edges ≡ []
unfolding table_plan precedence_plan
table_no_edges jobs m table h =
    let s = comes_split (jobs_plan jobs) (λ t. precedence_plan t None) m table h in
    let same : s.0 ≡ table = cc s.2 in
    subst (λ (t : Table). t.edges ≡ []) same (accepted_no_edges jobs m s.0 s.1)

-- the job that was found has these IDs
pub job_named : (table : Table) (task job : ℕ) (m : Option Contents) (j : ℕ) → ComesTo (job_plan table task job) m (Ok j)
    → (j < length table.jobs) × (id_of (job_at table j) ≡ (task, job))
unfolding job_plan
job_named table task job m j h = judged_so (JobNamed table task job) m (Ok j) h

record AcceptedEnd (jobs : List ℕ) (task job : ℕ) (end : End) (budget : ℕ) (m : Option Contents) (work : Work) : Type 0 where
  table : Table
  comes : ComesTo (table_plan jobs None) m (Ok table)
  is_table : IsTable table
  no_edges : table.edges ≡ []
  number : ℕ
  named : (number < length table.jobs) × (id_of (job_at table number) ≡ (task, job))
  work_is : work ≡ Attains table number end budget

accepted_end : (jobs : List ℕ) (task job : ℕ) (end : End) (budget : ℕ) (m : Option Contents) (work : Work)
    → ComesTo (attain_plan jobs task job end budget) m (Ok work) → AcceptedEnd jobs task job end budget m work
accepted_end jobs task job end budget m work h =
    let s = comes_split (table_plan jobs None) _ m work h in
    let j = comes_split (job_plan s.0 task job) _ m work s.2 in
    record {
      table = s.0;
      comes = s.1;
      is_table = accepted_table jobs None m s.0 s.1;
      no_edges = table_no_edges jobs m s.0 s.1;
      number = j.0;
      named = job_named s.0 task job m j.0 j.1;
      work_is = let same : Attains s.0 j.0 end budget ≡ work = cc in sym same;
    }

-- ---- its plan

job_reads : (table : Table) (task job : ℕ) (m : Option Contents) (k : FileKind) (n : List ℕ) → ReadsNext (job_plan table task job) m k n → ⊥
unfolding job_plan
job_reads table task job m k n h = h.2

-- the file that it reads is the one that its words name
pub attain_reads : (jobs : List ℕ) (task job : ℕ) (end : End) (budget : ℕ) (m : Option Contents) (k : FileKind) (n : List ℕ)
    → ReadsNext (attain_plan jobs task job end budget) m k n → IsAmongFiles (attain_files jobs) k n
attain_reads jobs task job end budget m k n h = elim (reads_split (table_plan jobs None) _ m k n h) [
  | inl x ↦ table_reads jobs None m k n x
  | inr x ↦ elim (reads_split (job_plan x.0 task job) (λ j. Ends (Ok (Attains x.0 j end budget))) m k n x.1) [
    | inl y ↦ absurd (job_reads x.0 task job m k n y)
    | inr y ↦ absurd y.1
  ]
]

-- no two jobs of a table have these IDs, and where one has them it is not missing
ids_apart : (table : Table) → IsTable table → (i j : ℕ) → i < j → j < length table.jobs → id_of (job_at table i) ≡ id_of (job_at table j) → ⊥
ids_apart table is_table i j less below same = is_table.ids_differ i j no_job less below (ap (λ (x : ℕ × ℕ). x.0) same, ap (λ (x : ℕ × ℕ). x.1) same)

one_job : (table : Table) → IsTable table → (i j : ℕ) → i < length table.jobs → j < length table.jobs → id_of (job_at table i) ≡ id_of (job_at table j) → i ≡ j
one_job table is_table i j here there same = elim (cases_lt i j) [
  | inl less ↦ absurd (ids_apart table is_table i j less there same)
  | inr more ↦ elim (cases_lt j i) [
    | inl less ↦ absurd (ids_apart table is_table j i less here (sym same))
    | inr other ↦ omega arith
  ]
]

-- a job of the table has its IDs among those of all
has_ids : (table : Table) (task job j : ℕ) → j < length table.jobs → id_of (job_at table j) ≡ (task, job) → Contains (map id_of table.jobs) (task, job)
has_ids table task job j below named = (j, omega (arith, below, length-map table.jobs id_of), get_or-map id_of table.jobs j no_job (task, job) below ∙ named)

job_same : (table : Table) (task job : ℕ) → IsTable table → (v w : Result ℕ Fault) → JobNamed table task job v → JobNamed table task job w → v ≡ w
job_same table task job is_table (Ok a) (Ok b) x y = ap Ok (one_job table is_table a b x.0 y.0 (x.1 ∙ sym y.1))
job_same table task job is_table (Ok a) (Err f) x (told, none) = absurd (none (has_ids table task job a x.0 x.1))
job_same table task job is_table (Err f) (Ok a) (told, none) x = absurd (none (has_ids table task job a x.0 x.1))
job_same table task job is_table (Err f) (Err g) (told, none) (told', none') = ap Err (told ∙ sym told')

job_one : (contents : Contents) (table : Table) (task job : ℕ) → IsTable table → IsOne contents (job_plan table task job)
unfolding job_plan
job_one contents table task job is_table = judged_one contents (JobNamed table task job) (job_same table task job is_table)

-- its file fixes its work, or its refusal
pub attain_one : FileLaws → (contents : Contents) (jobs : List ℕ) (task job : ℕ) (end : End) (budget : ℕ) → IsOne contents (attain_plan jobs task job end budget)
attain_one laws contents jobs task job end budget = then_one contents (table_plan jobs None) _ (table_one laws contents jobs None)
    (λ table comes. then_one contents (job_plan table task job) _ (job_one contents table task job (accepted_table jobs None (Some contents) table comes))
    (λ j comes'. ends_one contents (Ok (Attains table j end budget))))

-- its work has one reply
pub one_attain_reply : FileLaws → (contents : Contents) (jobs : List ℕ) (task job : ℕ) (end : End) (budget : ℕ) (r s : Reply)
    → Gives (attain_plan jobs task job end budget) (Some contents) r → Gives (attain_plan jobs task job end budget) (Some contents) s → r ≡ s
one_attain_reply laws contents jobs task job end budget r s a b =
    let works : ◌≡◌ {A = Result Work Fault} (Ok b.work) (Ok a.work) = (attain_one laws contents jobs task job end budget).one (Ok b.work) (Ok a.work) b.comes a.comes in
    let work : b.work ≡ a.work = cc works in
    let w = accepted_end jobs task job end budget (Some contents) a.work a.comes in
    let is : r ≡ attain_reply w.table w.number end (spent w.table 1 budget) = subst (λ x. Replies x r) w.work_is a.replies in
    let is' : s ≡ attain_reply w.table w.number end (spent w.table 1 budget) = subst (λ x. Replies x s) (work ∙ w.work_is) b.replies in
    is ∙ sym is'

-- ---- what is printed

module _ (table : Table) (j : ℕ) (end : End) (budget : ℕ) {a b : SeenSink} {r : Result Conclusion Halt} where
  -- no offer exceeds the budget, and the scenario was printed
  pub end_printed : (text : List ℕ) → spent table 1 budget ≡ None → text ≡ scenario_text table (extreme table (graph_of table 1) j end)
      → Prints (record { conclusion = Done; bytes = text }) a b r → Prints (attain_reply table j end (spent table 1 budget)) a b r
  end_printed text none text_is d =
      subst (λ o. Prints (attain_reply table j end o) a b r) (sym none) (subst (λ t. Prints (record { conclusion = Done; bytes = t }) a b r) text_is d)

  -- an offer exceeds the budget, and nothing was printed
  pub end_spent : (level states edges : ℕ) → spent table 1 budget ≡ Some (record { level = level; states = states; edges = edges }) → Writes [] a b r
      → IfOk r (λ told. (told ≡ Spent level states edges) × IsTrue b.finished) → Prints (attain_reply table j end (spent table 1 budget)) a b r
  end_spent level states edges is d told =
      subst (λ o. Prints (attain_reply table j end o) a b r) (sym is) (record { writes = d; conclusion = told })

-- ---- what it means

-- where it ended with Ok, no offer exceeds the budget
none_spent : (table : Table) (j : ℕ) (end : End) (first : Option Spending) → conclusion_status (attain_reply table j end first).conclusion ≡ statuses.Ok → first ≡ None
none_spent table j end None is = refl
none_spent table j end (Some s) is = absurd (cc is)

-- a job that has a span has one
the_span : (span : Option Interval) → IsTrue (is_some span) → (s : Interval) × (span ≡ Some s)
the_span None some = absurd (cc some)
the_span (Some s) some = (s, refl)

module _ (one_command : OneCommand) (attained : EndsAreAttained) (told : JobLinesTellSpans) where
  prints_end : (jobs : List ℕ) (task job : ℕ) (end : End) (budget : ℕ) (f f' : SeenFiles) (o o' : SeenSink) (conclusion : Conclusion)
      → conclusion_status conclusion ≡ statuses.Ok → Runs (attain_plan jobs task job end budget) f f' o o' (Ok conclusion) → PrintsEnd jobs task job end f o o'
  prints_end jobs task job end budget f f' o o' conclusion is w =
      let given = w.end.1 in
      let a = accepted_end jobs task job end budget f.contents given.work given.comes in
      let reply : w.end.0 ≡ attain_reply a.table a.number end (spent a.table 1 budget) = subst (λ x. Replies x w.end.0) a.work_is given.replies in
      let status = ap conclusion_status (sym (w.end.2 ∙ ap (λ (r : Reply). r.conclusion) reply)) ∙ is in
      let none = none_spent a.table a.number end (spent a.table 1 budget) status in
      let e = attained a.table a.number end a.is_table a.no_edges a.named.0 in
      let span = the_span (slice_index_or (graph_of a.table 1).spans a.number None) e.has_span in
      record {
        table = a.table;
        comes = a.comes;
        is_table = a.is_table;
        number = a.number;
        is_job = a.named.0;
        named = a.named.1;
        rows = extreme a.table (graph_of a.table 1) a.number end;
        fits = e.fits;
        printed = subst (λ (r : Reply). GrowsBy o.taken o'.taken r.bytes) (reply ∙ ap (attain_reply a.table a.number end) none) w.end.3;
        span = span.0;
        line = told a.table 1 a.number span.0 span.1;
        finishes = λ schedule legal. e.finish schedule legal ∙ ap (λ x. option_map_or (own_end end) x 0) span.1;
      }

  prints_ends : (words : List (List ℕ)) (f f' : SeenFiles) (o o' : SeenSink) (r : Result Conclusion Halt) → EndsWords words f f' o o' r → PrintsEnds words f o o' (run_status r)
  prints_ends words f f' o o' (Ok conclusion) w is = λ jobs task job end budget asked.
      let same = one_command words w.command (commands.Attain jobs task job end budget) w.asked asked in
      let runs = rw same at w.runs in
      prints_end jobs task job end budget f f' o o' conclusion is runs
  prints_ends words f f' o o' (Err Usage) w is = absurd cc
  prints_ends words f f' o o' (Err (Refused fault)) w is = absurd cc
  prints_ends words f f' o o' (Err (Read kind)) w is = absurd cc
  prints_ends words f f' o o' (Err Write) w is = absurd cc
  prints_ends words f f' o o' (Err Memory) w is = absurd cc

  -- where the words ask for an end, and it was attained, the scenario for it was printed
  pub ends_by : (words : List (List ℕ)) {f f' : SeenFiles} {o o' : SeenSink} {r : Result Conclusion Halt} → Works words f f' o o' r → PrintsEnds words f o o' (run_status r)
  ends_by words {f = f} {f' = f'} {o = o} {o' = o'} {r = r} w = prints_ends words f f' o o' r w.end
