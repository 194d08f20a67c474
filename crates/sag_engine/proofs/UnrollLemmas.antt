-- The command `unroll`: what its file comes to, which it reads, that it has one reply, and what it means.
use Rattle.std.proofs.Common.{◌≡◌, ◌∙◌, ℕ, inl, inr, List, Option, Some, Result, Ok, Err, ap, refl, subst, sym}
use Rattle.sag_edge.specs.Contents.{Contents}
use Rattle.sag_edge.specs.Reading.{SeenFiles}
use Rattle.sag_edge.specs.Writing.{GrowsBy, SeenSink}
use Rattle.sag_texts.specs.declared.fault.FileKind.{FileKind}
use Rattle.sag_texts.specs.declared.fault.FileKind.TheVariants as kinds
use Rattle.sag_texts.specs.declared.fault.Fault.{Fault}
use Rattle.sag_texts.specs.declared.fault.Fault.TheVariants as faults
use Rattle.sag_words.specs.declared.command.Command.TheVariants as commands
use Rattle.sag_words.specs.Laws.{OneCommand}
use Rattle.job_csv.specs.Jobs.{JobRows}
use Rattle.job_csv.specs.JobsText.{jobs_text}
use Rattle.job_model.specs.Table.{IsTable, Table, table_of}
use Rattle.task_unroll.specs.declared.task.Policy.{Policy}
use Rattle.task_unroll.specs.declared.task.Task.{Task}
use Rattle.task_unroll.specs.Laws.{OneTaskFault, OneTaskList, OneUnrollFault, TasksKeepRules, UnrolledKeepsRules}
use Rattle.task_unroll.specs.TaskRows.{TaskRows}
use Rattle.task_unroll.specs.Tasks.{AreTasks}
use Rattle.task_unroll.specs.Unrolled.{unrolled}
use Rattle.sag_engine.specs.declared.conclusion.Conclusion.{Conclusion}
use Rattle.sag_engine.specs.declared.fetch.TheConstants.{MOST_FILE_BYTES}
use Rattle.sag_engine.specs.declared.halt.Halt.{Halt}
use Rattle.sag_engine.specs.declared.halt.Halt.TheVariants.{Usage, Refused, Read, Write, Memory}
use Rattle.sag_engine.specs.Plan.{ComesTo, ReadsNext, file_plan, judged}
use Rattle.sag_engine.specs.Plan.Plan.{Ends}
use Rattle.sag_engine.specs.Unroll.{IsJobFileReply, PrintsJobFile, PrintsJobFiles, TasksJudged, TasksUnrolled, tasks_plan, unroll_files, unroll_plan, unrolled_plan}
use Rattle.sag_engine.specs.Work.{IsAmongFiles, Reply, Work}
use Rattle.sag_engine.specs.Work.Work.{Unrolls}
use Rattle.sag_engine.specs.Commands.{Replies}
use Rattle.sag_engine.specs.RunEnds.{EndsWords, Gives, Runs, Works, run_status}
use Rattle.sag_engine.proofs.CertificateLemmas.{WholeFile, whole_file}
use Rattle.sag_engine.proofs.FileLemmas.{one_file, reads_split}
use Rattle.sag_engine.proofs.OnePlan.{IsOne, ends_one, file_one, judged_one, then_one}
use Rattle.sag_engine.proofs.PlanLemmas.{comes_split, judged_so}

-- what other crates prove of tasks
pub record TaskLaws : Type 0 where
  pub one_task_list : OneTaskList
  pub one_task_fault : OneTaskFault
  pub tasks_keep_rules : TasksKeepRules
  pub one_unroll_fault : OneUnrollFault
  pub unrolled_keeps_rules : UnrolledKeepsRules

-- ---- what is known of a task file that was accepted

-- the tasks of a file of that name
record AcceptedTasks (m : Option Contents) (name : List ℕ) (list : List Task) : Type 0 where
  bytes : List ℕ
  whole : WholeFile m name MOST_FILE_BYTES bytes
  rows : TaskRows bytes list
  are_tasks : AreTasks list

accepted_tasks : (name : List ℕ) (m : Option Contents) (list : List Task) → ComesTo (tasks_plan name) m (Ok list) → AcceptedTasks m name list
unfolding tasks_plan
accepted_tasks name m list h =
    let s = comes_split (file_plan _ name _) _ m list h in
    let judgement = judged_so (TasksJudged s.0) m (Ok list) s.2 in
    record { bytes = s.0; whole = whole_file m _ name _ s.0 s.1; rows = judgement.0; are_tasks = judgement.1 }

-- what was read is of tasks
pub accepted_are_tasks : (name : List ℕ) (m : Option Contents) (list : List Task) → ComesTo (tasks_plan name) m (Ok list) → AreTasks list
accepted_are_tasks name m list h = (accepted_tasks name m list h).are_tasks

-- the work is to print the table of the jobs that the tasks release
record AcceptedUnrolling (m : Option Contents) (name : List ℕ) (horizon : ℕ) (policy : Policy) (work : Work) : Type 0 where
  list : List Task
  tasks : AcceptedTasks m name list
  table : Table
  table_is : table ≡ table_of (unrolled policy list horizon)
  is_table : IsTable table
  work_is : work ≡ Unrolls table

accepted_unrolling : (name : List ℕ) (horizon : ℕ) (policy : Policy) (m : Option Contents) (work : Work)
    → ComesTo (unroll_plan name horizon policy) m (Ok work) → AcceptedUnrolling m name horizon policy work
unfolding unrolled_plan
accepted_unrolling name horizon policy m work h =
    let s = comes_split (unrolled_plan name horizon policy) _ m work h in
    let t = comes_split (tasks_plan name) (λ list. judged (TasksUnrolled policy list horizon)) m s.0 s.1 in
    let judgement = judged_so (TasksUnrolled policy t.0 horizon) m (Ok s.0) t.2 in
    record {
      list = t.0;
      tasks = accepted_tasks name m t.0 t.1;
      table = s.0;
      table_is = judgement.0;
      is_table = judgement.1;
      work_is = let same : Unrolls s.0 ≡ work = cc in sym same;
    }

-- ---- its plan

tasks_reads : (name : List ℕ) (m : Option Contents) (k : FileKind) (n : List ℕ) → ReadsNext (tasks_plan name) m k n → (kinds.Tasks ≡ k) × (name ≡ n)
unfolding tasks_plan
tasks_reads name m k n h = one_file _ name _ _ m k n h

unrolled_reads : (name : List ℕ) (horizon : ℕ) (policy : Policy) (m : Option Contents) (k : FileKind) (n : List ℕ)
    → ReadsNext (unrolled_plan name horizon policy) m k n → (kinds.Tasks ≡ k) × (name ≡ n)
unfolding unrolled_plan
unrolled_reads name horizon policy m k n h = elim (reads_split (tasks_plan name) (λ list. judged (TasksUnrolled policy list horizon)) m k n h) [
  | inl x ↦ tasks_reads name m k n x
  | inr x ↦ absurd x.1.2
]

-- the file that it reads is the one that its words name
pub unroll_reads : (name : List ℕ) (horizon : ℕ) (policy : Policy) (m : Option Contents) (k : FileKind) (n : List ℕ)
    → ReadsNext (unroll_plan name horizon policy) m k n → IsAmongFiles (unroll_files name) k n
unroll_reads name horizon policy m k n h = elim (reads_split (unrolled_plan name horizon policy) (λ table. Ends (Ok (Unrolls table))) m k n h) [
  | inl x ↦ inl (unrolled_reads name horizon policy m k n x)
  | inr x ↦ absurd x.1
]

module _ (laws : TaskLaws) where
  -- of a task file's bytes there is one judgement
  tasks_same : (bytes : List ℕ) (v w : Result (List Task) Fault) → TasksJudged bytes v → TasksJudged bytes w → v ≡ w
  tasks_same bytes (Ok a) (Ok b) (rows, are) (rows', are') = ap Ok (laws.one_task_list bytes a b rows rows')
  tasks_same bytes (Ok a) (Err f) (rows, are) (e, told, other, first) = absurd (laws.tasks_keep_rules bytes a rows are e other first)
  tasks_same bytes (Err f) (Ok a) (e, told, other, first) (rows, are) = absurd (laws.tasks_keep_rules bytes a rows are e other first)
  tasks_same bytes (Err f) (Err g) (e, told, other, first) (e', told', other', first') =
      ap Err (told ∙ ap faults.Tasks (laws.one_task_fault bytes e e' other other' first first') ∙ sym told')

  -- of tasks there is one table, or one reason why there is none
  unrolled_same : (policy : Policy) (list : List Task) (horizon : ℕ) → AreTasks list → (v w : Result Table Fault)
      → TasksUnrolled policy list horizon v → TasksUnrolled policy list horizon w → v ≡ w
  unrolled_same policy list horizon are (Ok a) (Ok b) (is, is_table) (is', is_table') = ap Ok (is ∙ sym is')
  unrolled_same policy list horizon are (Ok a) (Err f) (is, is_table) (e, told, other, first) =
      absurd (laws.unrolled_keeps_rules policy list horizon are (subst IsTable is is_table) e other first)
  unrolled_same policy list horizon are (Err f) (Ok a) (e, told, other, first) (is, is_table) =
      absurd (laws.unrolled_keeps_rules policy list horizon are (subst IsTable is is_table) e other first)
  unrolled_same policy list horizon are (Err f) (Err g) (e, told, other, first) (e', told', other', first') =
      ap Err (told ∙ ap faults.Tasks (laws.one_unroll_fault policy list horizon e e' other other' first first') ∙ sym told')

  tasks_one : (contents : Contents) (name : List ℕ) → IsOne contents (tasks_plan name)
  unfolding tasks_plan
  tasks_one contents name = then_one contents (file_plan kinds.Tasks name MOST_FILE_BYTES) (λ bytes. judged (TasksJudged bytes))
      (file_one contents kinds.Tasks name MOST_FILE_BYTES) (λ bytes comes. judged_one contents (TasksJudged bytes) (tasks_same bytes))

  unrolled_one : (contents : Contents) (name : List ℕ) (horizon : ℕ) (policy : Policy) → IsOne contents (unrolled_plan name horizon policy)
  unfolding unrolled_plan
  unrolled_one contents name horizon policy = then_one contents (tasks_plan name) (λ list. judged (TasksUnrolled policy list horizon)) (tasks_one contents name)
      (λ list comes. judged_one contents (TasksUnrolled policy list horizon) (unrolled_same policy list horizon (accepted_are_tasks name (Some contents) list comes)))

  -- its file fixes its work, or its refusal
  pub unroll_one : (contents : Contents) (name : List ℕ) (horizon : ℕ) (policy : Policy) → IsOne contents (unroll_plan name horizon policy)
  unroll_one contents name horizon policy = then_one contents (unrolled_plan name horizon policy) _ (unrolled_one contents name horizon policy)
      (λ table comes. ends_one contents (Ok (Unrolls table)))

  -- its work has one reply
  pub one_unroll_reply : (contents : Contents) (name : List ℕ) (horizon : ℕ) (policy : Policy) (r s : Reply)
      → Gives (unroll_plan name horizon policy) (Some contents) r → Gives (unroll_plan name horizon policy) (Some contents) s → r ≡ s
  one_unroll_reply contents name horizon policy r s a b =
      let works : ◌≡◌ {A = Result Work Fault} (Ok b.work) (Ok a.work) = (unroll_one contents name horizon policy).one (Ok b.work) (Ok a.work) b.comes a.comes in
      let work : b.work ≡ a.work = cc works in
      let w = accepted_unrolling name horizon policy (Some contents) a.work a.comes in
      let is : IsJobFileReply w.table r = subst (λ x. Replies x r) w.work_is a.replies in
      let is' : IsJobFileReply w.table s = subst (λ x. Replies x s) (work ∙ w.work_is) b.replies in
      is.0 ∙ sym is'.0

-- ---- what it means

module _ (one_command : OneCommand) where
  prints_job_file : (name : List ℕ) (horizon : ℕ) (policy : Policy) (f f' : SeenFiles) (o o' : SeenSink) (conclusion : Conclusion)
      → Runs (unroll_plan name horizon policy) f f' o o' (Ok conclusion) → PrintsJobFile name horizon policy f o o'
  prints_job_file name horizon policy f f' o o' conclusion w =
      let given = w.end.1 in
      let a = accepted_unrolling name horizon policy f.contents given.work given.comes in
      let is : IsJobFileReply a.table w.end.0 = subst (λ x. Replies x w.end.0) a.work_is given.replies in
      let rows : JobRows (jobs_text a.table) (unrolled policy a.list horizon) = subst (JobRows (jobs_text a.table)) (ap (λ (t : Table). t.jobs) a.table_is) is.1 in
      record {
        bytes = a.tasks.bytes;
        are = a.tasks.whole.are;
        few = a.tasks.whole.few;
        list = a.list;
        rows = a.tasks.rows;
        are_tasks = a.tasks.are_tasks;
        text = jobs_text a.table;
        printed = subst (λ (t : List ℕ). GrowsBy o.taken o'.taken t) (ap (λ (r : Reply). r.bytes) is.0) w.end.3;
        accepted = (unrolled policy a.list horizon, rows, refl, subst IsTable a.table_is a.is_table);
      }

  prints_job_files : (words : List (List ℕ)) (f f' : SeenFiles) (o o' : SeenSink) (r : Result Conclusion Halt) → EndsWords words f f' o o' r → PrintsJobFiles words f o o' (run_status r)
  prints_job_files words f f' o o' (Ok conclusion) w is = λ name horizon policy asked.
      let same = one_command words w.command (commands.Unroll name horizon policy) w.asked asked in
      let runs = rw same at w.runs in
      prints_job_file name horizon policy f f' o o' conclusion runs
  prints_job_files words f f' o o' (Err Usage) w is = absurd cc
  prints_job_files words f f' o o' (Err (Refused fault)) w is = absurd cc
  prints_job_files words f f' o o' (Err (Read kind)) w is = absurd cc
  prints_job_files words f f' o o' (Err Write) w is = absurd cc
  prints_job_files words f f' o o' (Err Memory) w is = absurd cc

  -- where the words ask to unroll tasks, and it was done, the job file of their jobs was printed
  pub job_files_by : (words : List (List ℕ)) {f f' : SeenFiles} {o o' : SeenSink} {r : Result Conclusion Halt} → Works words f f' o o' r → PrintsJobFiles words f o o' (run_status r)
  job_files_by words {f = f} {f' = f'} {o = o} {o' = o'} {r = r} w = prints_job_files words f f' o o' r w.end
