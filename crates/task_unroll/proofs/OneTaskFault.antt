-- A task file has one first broken rule.
use Rattle.std.proofs.Common.{◌≡◌, ◌≢◌, ◌<◌, ◌+◌, ◌∙◌, inl, inr, ℕ, List, Option, None, Some, length, arith, refl, sym, ap, ap₂, subst, map}
use Rattle.std.proofs.lemmas.Bool.{cases_lt}
use Rattle.csv_numbers.specs.declared.fault.CsvFault.{CsvFault}
use Rattle.csv_numbers.specs.declared.fault.CsvFault.TheVariants as csv
use Rattle.csv_numbers.specs.Rows.{FirstFault}
use Rattle.csv_numbers.specs.Laws.{OneFirstFault, RowsAgree, RowsKeepRules}
use Rattle.lists.proofs.Splits.{front-within, fronts-same}
use Rattle.task_unroll.specs.declared.task.Task.{Task}
use Rattle.task_unroll.specs.declared.fault.TaskFault.{TaskFault}
use Rattle.task_unroll.specs.declared.fault.TaskFault.TheVariants as fault
use Rattle.task_unroll.specs.Laws.{OneTaskFault}
use Rattle.task_unroll.specs.TaskFaults.{BreaksTaskRule, FirstBrokenTask, FirstTaskFault, no_task, task_at}
use Rattle.task_unroll.specs.TaskRows.{TaskRows, task_columns}
use Rattle.task_unroll.specs.Tasks.{AreTasks}
use Rattle.task_unroll.proofs.TaskLists.{limits_kept, no-break, one_task_list}

-- the tasks before one that breaks a rule break none
row_earlier : (tasks : List Task) (e f : TaskFault) (r : FirstBrokenTask tasks e) (s : FirstBrokenTask tasks f) → length r.before < length s.before → ⊥
row_earlier tasks e f r s less =
    let (tail, is) = front-within r.before r.here r.after s.before s.here s.after (sym r.split ∙ s.split) less in
    no-break r.before r.here tail (length r.before + 1) e (subst AreTasks is s.kept) r.breaks

-- two earlier tasks with the ID of a task are one
one_earlier : (before : List Task) (id k l : ℕ) → AreTasks before → k < length before → l < length before → (task_at before k).task ≡ id → (task_at before l).task ≡ id → k ≡ l
one_earlier before id k l are below below' same same' = elim (cases_lt k l) [
  | inl less ↦ absurd (are.ids_differ k l no_task less below' (same ∙ sym same'))
  | inr more ↦ elim (cases_lt l k) [
    | inl less ↦ absurd (are.ids_differ l k no_task less below (same' ∙ sym same))
    | inr other ↦ omega (arith, more, other)
  ]
]

-- there is none, and there is some
clash : {X : Type 0} {A : Type 0} (o : Option A) (a : A) → o ≡ None → o ≡ Some a → X
clash o a none some = absurd cc

-- a task breaks one rule first
module _ (before : List Task) (a : Task) (row : ℕ) (are : AreTasks before) where
  one_break : (e f : TaskFault) → BreaksTaskRule before a row e → BreaksTaskRule before a row f → e ≡ f
  one_break (fault.Csv e) f x y = absurd x
  one_break (fault.Late p) f x y = absurd x
  one_break fault.TooMany f x y = absurd x
  one_break fault.Memory f x y = absurd x
  one_break (fault.OverLimit p c) (fault.OverLimit q d) x y = let same : Some c ≡ Some d = sym x.1 ∙ y.1 in ap₂ fault.OverLimit (x.0 ∙ sym y.0) (cc same)
  one_break (fault.OverLimit p c) (fault.ZeroPeriod q) x y = clash _ c y.1 x.1
  one_break (fault.OverLimit p c) (fault.SpanReversed q) x y = clash _ c y.1 x.1
  one_break (fault.OverLimit p c) (fault.ZeroCost q) x y = clash _ c y.1 x.1
  one_break (fault.OverLimit p c) (fault.Twice q l) x y = clash _ c (limits_kept a y.1) x.1
  one_break (fault.OverLimit p c) (fault.Csv f) x y = absurd y
  one_break (fault.OverLimit p c) (fault.Late q) x y = absurd y
  one_break (fault.OverLimit p c) fault.TooMany x y = absurd y
  one_break (fault.OverLimit p c) fault.Memory x y = absurd y
  one_break (fault.ZeroPeriod p) (fault.OverLimit q d) x y = clash _ d x.1 y.1
  one_break (fault.ZeroPeriod p) (fault.ZeroPeriod q) x y = ap fault.ZeroPeriod (x.0 ∙ sym y.0)
  one_break (fault.ZeroPeriod p) (fault.SpanReversed q) x y = absurd (omega (arith, x.2, y.2))
  one_break (fault.ZeroPeriod p) (fault.ZeroCost q) x y = absurd (omega (arith, x.2, y.2))
  one_break (fault.ZeroPeriod p) (fault.Twice q l) x y = absurd (omega (arith, x.2, y.1.has_period))
  one_break (fault.ZeroPeriod p) (fault.Csv f) x y = absurd y
  one_break (fault.ZeroPeriod p) (fault.Late q) x y = absurd y
  one_break (fault.ZeroPeriod p) fault.TooMany x y = absurd y
  one_break (fault.ZeroPeriod p) fault.Memory x y = absurd y
  one_break (fault.SpanReversed p) (fault.OverLimit q d) x y = clash _ d x.1 y.1
  one_break (fault.SpanReversed p) (fault.ZeroPeriod q) x y = absurd (omega (arith, x.2, y.2))
  one_break (fault.SpanReversed p) (fault.SpanReversed q) x y = ap fault.SpanReversed (x.0 ∙ sym y.0)
  one_break (fault.SpanReversed p) (fault.ZeroCost q) x y = absurd (omega (arith, x.3, y.3))
  one_break (fault.SpanReversed p) (fault.Twice q l) x y = absurd (omega (arith, x.3, y.1.costs))
  one_break (fault.SpanReversed p) (fault.Csv f) x y = absurd y
  one_break (fault.SpanReversed p) (fault.Late q) x y = absurd y
  one_break (fault.SpanReversed p) fault.TooMany x y = absurd y
  one_break (fault.SpanReversed p) fault.Memory x y = absurd y
  one_break (fault.ZeroCost p) (fault.OverLimit q d) x y = clash _ d x.1 y.1
  one_break (fault.ZeroCost p) (fault.ZeroPeriod q) x y = absurd (omega (arith, x.2, y.2))
  one_break (fault.ZeroCost p) (fault.SpanReversed q) x y = absurd (omega (arith, x.3, y.3))
  one_break (fault.ZeroCost p) (fault.ZeroCost q) x y = ap fault.ZeroCost (x.0 ∙ sym y.0)
  one_break (fault.ZeroCost p) (fault.Twice q l) x y = absurd (omega (arith, x.4, y.1.costs_something))
  one_break (fault.ZeroCost p) (fault.Csv f) x y = absurd y
  one_break (fault.ZeroCost p) (fault.Late q) x y = absurd y
  one_break (fault.ZeroCost p) fault.TooMany x y = absurd y
  one_break (fault.ZeroCost p) fault.Memory x y = absurd y
  one_break (fault.Twice p k) (fault.OverLimit q d) x y = clash _ d (limits_kept a x.1) y.1
  one_break (fault.Twice p k) (fault.ZeroPeriod q) x y = absurd (omega (arith, x.1.has_period, y.2))
  one_break (fault.Twice p k) (fault.SpanReversed q) x y = absurd (omega (arith, x.1.costs, y.3))
  one_break (fault.Twice p k) (fault.ZeroCost q) x y = absurd (omega (arith, x.1.costs_something, y.4))
  one_break (fault.Twice p k) (fault.Twice q l) (is, task, i, below, place, same) (is', task', j, below', place', same') =
      ap₂ fault.Twice (is ∙ sym is') (place ∙ ap (λ n. n + 1) (one_earlier before a.task i j are below below' same same') ∙ sym place')
  one_break (fault.Twice p k) (fault.Csv f) x y = absurd y
  one_break (fault.Twice p k) (fault.Late q) x y = absurd y
  one_break (fault.Twice p k) fault.TooMany x y = absurd y
  one_break (fault.Twice p k) fault.Memory x y = absurd y

one_row : (tasks : List Task) (e f : TaskFault) (r : FirstBrokenTask tasks e) (s : FirstBrokenTask tasks f) → length r.before ≡ length s.before → e ≡ f
one_row tasks e f r s long =
    let (fronts, items) = fronts-same r.before r.here r.after s.before s.here s.after (sym r.split ∙ s.split) long in
    let there : BreaksTaskRule s.before s.here (length r.before + 1) f = subst (λ n. BreaksTaskRule s.before s.here (n + 1) f) (sym long) s.breaks in
    let there' : BreaksTaskRule r.before s.here (length r.before + 1) f = subst (λ l. BreaksTaskRule l s.here (length r.before + 1) f) (sym fronts) there in
    let here : BreaksTaskRule r.before r.here (length r.before + 1) f = subst (λ x. BreaksTaskRule r.before x (length r.before + 1) f) (sym items) there' in
    one_break r.before r.here (length r.before + 1) r.kept e f r.breaks here

one_broken : (tasks : List Task) (e f : TaskFault) → FirstBrokenTask tasks e → FirstBrokenTask tasks f → e ≡ f
one_broken tasks e f r s = elim (cases_lt (length r.before) (length s.before)) [
  | inl less ↦ absurd (row_earlier tasks e f r s less)
  | inr more ↦ elim (cases_lt (length s.before) (length r.before)) [
    | inl less ↦ absurd (row_earlier tasks f e s r less)
    | inr other ↦ one_row tasks e f r s (omega (arith, more, other))
  ]
]

-- the first rule that a file breaks is a rule of CSV, or of tasks
data Cause (bytes : List ℕ) (e : TaskFault) : Type 0 where
  OfText : (c : CsvFault) → e ≡ fault.Csv c → c ≢ csv.Memory → FirstFault bytes 7 c → Cause bytes e
  OfTasks : (tasks : List Task) → TaskRows bytes tasks → FirstBrokenTask tasks e → Cause bytes e

cause : (bytes : List ℕ) (e : TaskFault) → e ≢ fault.Memory → FirstTaskFault bytes e → Cause bytes e
cause bytes (fault.Csv c) other first = OfText c refl first.0 first.1
cause bytes (fault.OverLimit row column) other (tasks, reads, first) = OfTasks tasks reads first
cause bytes (fault.ZeroPeriod row) other (tasks, reads, first) = OfTasks tasks reads first
cause bytes (fault.SpanReversed row) other (tasks, reads, first) = OfTasks tasks reads first
cause bytes (fault.ZeroCost row) other (tasks, reads, first) = OfTasks tasks reads first
cause bytes (fault.Twice row earlier) other (tasks, reads, first) = OfTasks tasks reads first
cause bytes (fault.Late row) other (tasks, reads, first) = OfTasks tasks reads first
cause bytes fault.TooMany other (tasks, reads, first) = OfTasks tasks reads first
cause bytes fault.Memory other first = absurd (other refl)

module _ (agree : RowsAgree) (keep : RowsKeepRules) (one : OneFirstFault) (bytes : List ℕ) where
  one_cause : (e f : TaskFault) → Cause bytes e → Cause bytes f → e ≡ f
  one_cause e f (OfText c is other first) (OfText d is' other' first') = is ∙ ap fault.Csv (one bytes 7 c d other other' first first') ∙ sym is'
  one_cause e f (OfText c is other first) (OfTasks tasks reads broken) = absurd (keep bytes 7 (map task_columns tasks) reads c other first)
  one_cause e f (OfTasks tasks reads broken) (OfText d is other first) = absurd (keep bytes 7 (map task_columns tasks) reads d other first)
  one_cause e f (OfTasks tasks reads broken) (OfTasks list reads' broken') =
      one_broken tasks e f broken (subst (λ l. FirstBrokenTask l f) (one_task_list agree bytes list tasks reads' reads) broken')

pub one_task_fault : RowsAgree → RowsKeepRules → OneFirstFault → OneTaskFault
one_task_fault agree keep one bytes e f e_other f_other a b = one_cause agree keep one bytes e f (cause bytes e e_other a) (cause bytes f f_other b)
