-- When tasks keep the rules, and what the places of IDs say of them.
use Rattle.std.proofs.Common.{◌≡◌, ◌≢◌, ◌∙◌, ℕ, suc, ◌+◌, ◌<◌, ◌≤◌, Bool, true, false, List, [], ◌∷◌, ◌++◌, None, Some, length, map, not, take, drop, get_or, slice_get, refl, sym, ap, ap₂, subst, arith, eq-eqb, drop-cons, length-append, nat_eq}
use Rattle.std.proofs.lemmas.Bool.Decides.{nat_tests}
use Rattle.std.specs.Prelude.{nat_lt}
use Rattle.std.specs.List.{list_any}
use Rattle.std.proofs.lemmas.List.{get_or-map, length-map, map-append, length-take-le, take-append-drop, get_or_append_left}
use Rattle.std.proofs.lemmas.List.Elements.{All-push}
use Rattle.std.proofs.lemmas.List.Folds.{list_any_at}
use Rattle.std.proofs.lemmas.List.Quantifiers.{all_pairs_push}
use Rattle.std.proofs.lemmas.Option.{get_or_from_slice_get, slice_get_within}
use Rattle.std.proofs.Math.Seq.{get_or-append_seam}
use Rattle.indexmap.specs.IndexSet.{insert_key}
use Rattle.csv_numbers.specs.Laws.{RowsAgree, RowsKeepRules}
use Rattle.job_model.specs.declared.limits.TheConstants.{MOST_COST}
use Rattle.job_model.specs.TableFaults.{first_above}
use Rattle.task_unroll.specs.declared.limits.TheConstants.{MOST_TASK_TIME}
use Rattle.task_unroll.specs.declared.task.Task.{Task}
use Rattle.task_unroll.specs.declared.fault.TaskFault.{TaskFault}
use Rattle.task_unroll.specs.declared.fault.TaskFault.TheVariants as fault
use Rattle.task_unroll.specs.Laws.{OneTaskList, TasksKeepRules}
use Rattle.task_unroll.specs.TaskFaults.{BreaksTaskRule, FirstBrokenTask, FirstTaskFault, no_task, task_at, task_limits}
use Rattle.task_unroll.specs.TaskRows.{TaskRows, task_columns}
use Rattle.task_unroll.specs.Tasks.{AreTasks, IsTask}

none_below : (k : ℕ) → k < 0 → ⊥
none_below k h = omega (arith, h)

pub tasks_empty : AreTasks []
tasks_empty = record { each = λ k d h. absurd (none_below k h); ids_differ = λ i j d less below same. none_below j below }

-- ---- a task is its columns

-- the task of seven columns, and of none past them
abbrev task_from : List ℕ → Task → Task
task_from (a ∷ b ∷ c ∷ d ∷ e ∷ f ∷ g ∷ rest) other = record { task = a; period = b; offset = c; jitter = d; cmin = e; cmax = f; deadline = g }
task_from columns other = other

-- tasks with the same columns are the same
pub tasks-same : (tasks list : List Task) → map task_columns tasks ≡ map task_columns list → tasks ≡ list
tasks-same [] [] e = refl
tasks-same [] (b ∷ list) e = cc e
tasks-same (a ∷ tasks) [] e = cc e
tasks-same (a ∷ tasks) (b ∷ list) e =
    let head : task_columns a ≡ task_columns b = cc e in
    let tail : map task_columns tasks ≡ map task_columns list = cc e in
    let same : a ≡ b = ap (λ (columns : List ℕ). task_from columns a) head in
    ap₂ (λ (x : Task) (l : List Task). x ∷ l) same (tasks-same tasks list tail)

pub one_task_list : RowsAgree → OneTaskList
one_task_list agree bytes one other reads reads' = tasks-same one other (agree bytes 7 (map task_columns one) (map task_columns other) reads reads')

-- ---- IDs

id_itself : (id : ℕ) → nat_eq id id ≡ true
id_itself id = eq-eqb id id refl

id_same : (id y : ℕ) → nat_eq id y ≡ true → y ≡ id
id_same id y e = grind (arith, e)

-- an ID that is not among those of the tasks is no task's
id_new : (tasks : List Task) (a : Task) → list_any (nat_eq a.task) (map (λ x. x.task) tasks) ≡ false → (k : ℕ) (d : Task) → k < length tasks → (get_or tasks k d).task ≢ a.task
id_new tasks a none k d below same =
    let read = get_or-map (λ (x : Task). x.task) tasks k d d.task below in
    let here : nat_eq a.task (get_or (map (λ (x : Task). x.task) tasks) k d.task) ≡ true = rw (read, same) (id_itself a.task) in
    let some = list_any_at (nat_eq a.task) (map (λ (x : Task). x.task) tasks) k d.task (omega (arith, length-map tasks (λ (x : Task). x.task))) here in
    cc (none, some)

-- one more task of a new ID
tasks_push : (tasks : List Task) (a : Task) → AreTasks tasks → IsTask a → list_any (nat_eq a.task) (map (λ x. x.task) tasks) ≡ false → AreTasks (tasks ++ a ∷ [])
tasks_push tasks a are task none = record {
  each = All-push IsTask tasks a are.each task;
  ids_differ = all_pairs_push (λ x y. x.task ≢ y.task) tasks a are.ids_differ (id_new tasks a none);
}

-- what an insert of the ID of a says where the set has the IDs of the tasks: whether it is new, the keys after it, and its place
pub record Inserts (tasks : List Task) (a : Task) (keys new_keys : List ℕ) (place : ℕ) (is_new : Bool) : Type 0 where
  pub ids : keys ≡ map (λ x. x.task) tasks
  pub added : is_new ≡ not (list_any (nat_eq a.task) keys)
  pub keys_are : new_keys ≡ insert_key nat_eq keys a.task
  pub stored : (y : ℕ) × (slice_get new_keys place ≡ Some y) × (nat_eq a.task y ≡ true)

not_false : (b : Bool) → not b ≡ false → b ≡ true
not_false true e = refl
not_false false e = cc

not_true : (b : Bool) → not b ≡ true → b ≡ false
not_true true e = cc
not_true false e = refl

-- an ID that is not new is that of the task at its place
pub id_repeats : (tasks : List Task) (a : Task) (keys new_keys : List ℕ) (place : ℕ) → Inserts tasks a keys new_keys place false → (place < length tasks) × ((task_at tasks place).task ≡ a.task)
id_repeats tasks a keys new_keys place h =
    let there = not_false (list_any (nat_eq a.task) keys) (sym h.added) in
    let same_keys : new_keys ≡ keys = rw there at h.keys_are in
    let (y, at, same) = h.stored in
    let read = rw (same_keys, h.ids) at at in
    let below : place < length tasks = omega (arith, slice_get_within (map (λ (x : Task). x.task) tasks) place y read, length-map tasks (λ (x : Task). x.task)) in
    let id : (task_at tasks place).task ≡ y =
    sym (get_or-map (λ (x : Task). x.task) tasks place no_task 0 below) ∙ get_or_from_slice_get (map (λ (x : Task). x.task) tasks) place y 0 read in
    (below, id ∙ id_same a.task y same)

-- a task of a new ID goes last
pub id_added : (tasks : List Task) (a : Task) (keys new_keys : List ℕ) (place : ℕ) → Inserts tasks a keys new_keys place true → AreTasks tasks → IsTask a
    → AreTasks (tasks ++ a ∷ []) × (new_keys ≡ map (λ x. x.task) (tasks ++ a ∷ []))
id_added tasks a keys new_keys place h are task =
    let none = not_true (list_any (nat_eq a.task) keys) (sym h.added) in
    let one_more : new_keys ≡ keys ++ a.task ∷ [] = rw none at h.keys_are in
    (tasks_push tasks a are task (rw h.ids at none), one_more ∙ ap (λ (l : List ℕ). l ++ a.task ∷ []) h.ids ∙ sym (map-append (λ (x : Task). x.task) tasks (a ∷ [])))

-- ---- rules

-- the task at an index, where those before it keep the rules
abbrev pub broken-at : (tasks : List Task) (i : ℕ) (e : TaskFault) → i < length tasks → AreTasks (take i tasks) → BreaksTaskRule (take i tasks) (get_or tasks i no_task) (i + 1) e → FirstBrokenTask tasks e
broken-at tasks i e below kept breaks = record {
  before = take i tasks;
  here = get_or tasks i no_task;
  after = drop (suc i) tasks;
  split = sym (take-append-drop i tasks) ∙ ap (λ l. take i tasks ++ l) (drop-cons tasks i no_task below);
  kept = kept;
  breaks = subst (λ n. BreaksTaskRule (take i tasks) (get_or tasks i no_task) (n + 1) e) (sym (length-take-le i tasks (omega arith))) breaks;
}

-- what tasks break first is what their file does
pub fault-of : (bytes : List ℕ) (tasks : List Task) (e : TaskFault) → TaskRows bytes tasks → FirstBrokenTask tasks e → FirstTaskFault bytes e
fault-of bytes tasks (fault.Csv e) reads first = absurd first.breaks
fault-of bytes tasks (fault.OverLimit row column) reads first = (tasks, reads, first)
fault-of bytes tasks (fault.ZeroPeriod row) reads first = (tasks, reads, first)
fault-of bytes tasks (fault.SpanReversed row) reads first = (tasks, reads, first)
fault-of bytes tasks (fault.ZeroCost row) reads first = (tasks, reads, first)
fault-of bytes tasks (fault.Twice row earlier) reads first = (tasks, reads, first)
fault-of bytes tasks (fault.Late row) reads first = absurd first.breaks
fault-of bytes tasks fault.TooMany reads first = absurd first.breaks
fault-of bytes tasks fault.Memory reads first = tt

not_below : (m n : ℕ) → n ≤ m → nat_lt m n ≡ false
not_below m n h = grind (arith, nat_tests)

-- a task has nothing above its limit
pub limits_kept : (a : Task) → IsTask a → first_above (task_limits a) ≡ None
limits_kept a task =
    let one : nat_lt MOST_TASK_TIME a.period ≡ false = not_below MOST_TASK_TIME a.period task.period_limit in
    let two : nat_lt MOST_TASK_TIME a.offset ≡ false = not_below MOST_TASK_TIME a.offset task.offset_limit in
    let three : nat_lt MOST_TASK_TIME a.jitter ≡ false = not_below MOST_TASK_TIME a.jitter task.jitter_limit in
    let four : nat_lt MOST_COST a.cmin ≡ false = not_below MOST_COST a.cmin (omega (arith, task.costs, task.cost_limit)) in
    let five : nat_lt MOST_COST a.cmax ≡ false = not_below MOST_COST a.cmax task.cost_limit in
    let six : nat_lt MOST_TASK_TIME a.deadline ≡ false = not_below MOST_TASK_TIME a.deadline task.deadline_limit in
    rw (one, two, three, four, five, six) refl

-- of tasks that keep the rules none breaks one
pub no-break : (before : List Task) (here : Task) (after : List Task) (row : ℕ) (e : TaskFault) → AreTasks (before ++ here ∷ after) → BreaksTaskRule before here row e → ⊥
no-break before here after row e are breaks = by e breaks
  where
    there : length before < length (before ++ here ∷ after)
    there = omega (arith, length-append before (here ∷ after))

    last : (d : Task) → get_or (before ++ here ∷ after) (length before) d ≡ here
    last d = get_or-append_seam before here after d

    task : IsTask here
    task = subst IsTask (last no_task) (are.each (length before) no_task there)

    by : (e : TaskFault) → BreaksTaskRule before here row e → ⊥
    by (fault.Csv e) breaks = breaks
    by (fault.OverLimit at column) breaks = let none = limits_kept here task in let some = breaks.1 in cc (none, some)
    by (fault.ZeroPeriod at) breaks = omega (arith, breaks.2, task.has_period)
    by (fault.SpanReversed at) breaks = omega (arith, breaks.3, task.costs)
    by (fault.ZeroCost at) breaks = omega (arith, breaks.4, task.costs_something)
    by (fault.Twice at earlier) (is, keeps, k, below, place, same) =
        are.ids_differ k (length before) no_task below there
        (ap (λ (x : Task). x.task) (get_or_append_left before (here ∷ after) no_task k below) ∙ same ∙ ap (λ (x : Task). x.task) (sym (last no_task)))
    by (fault.Late at) breaks = breaks
    by fault.TooMany breaks = breaks
    by fault.Memory breaks = breaks

-- tasks that keep the rules break none
pub none-broken : (tasks : List Task) (e : TaskFault) → AreTasks tasks → FirstBrokenTask tasks e → ⊥
none-broken tasks e are first = no-break first.before first.here first.after (length first.before + 1) e (subst AreTasks first.split are) first.breaks

module _ (agree : RowsAgree) (bytes : List ℕ) (tasks : List Task) (reads : TaskRows bytes tasks) (are : AreTasks tasks) (e : TaskFault) where
  not-broken : ((list : List Task) × TaskRows bytes list × FirstBrokenTask list e) → ⊥
  not-broken (list, reads', first) = none-broken tasks e are (subst (λ l. FirstBrokenTask l e) (one_task_list agree bytes list tasks reads' reads) first)

pub tasks_keep_rules : RowsAgree → RowsKeepRules → TasksKeepRules
tasks_keep_rules agree keep bytes tasks reads are (fault.Csv e) other first = keep bytes 7 (map task_columns tasks) reads e first.0 first.1
tasks_keep_rules agree keep bytes tasks reads are (fault.OverLimit row column) other first = not-broken agree bytes tasks reads are (fault.OverLimit row column) first
tasks_keep_rules agree keep bytes tasks reads are (fault.ZeroPeriod row) other first = not-broken agree bytes tasks reads are (fault.ZeroPeriod row) first
tasks_keep_rules agree keep bytes tasks reads are (fault.SpanReversed row) other first = not-broken agree bytes tasks reads are (fault.SpanReversed row) first
tasks_keep_rules agree keep bytes tasks reads are (fault.ZeroCost row) other first = not-broken agree bytes tasks reads are (fault.ZeroCost row) first
tasks_keep_rules agree keep bytes tasks reads are (fault.Twice row earlier) other first = not-broken agree bytes tasks reads are (fault.Twice row earlier) first
tasks_keep_rules agree keep bytes tasks reads are (fault.Late row) other first = absurd first.2.breaks
tasks_keep_rules agree keep bytes tasks reads are fault.TooMany other first = absurd first.2.breaks
tasks_keep_rules agree keep bytes tasks reads are fault.Memory other first = other refl
