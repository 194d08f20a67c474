-- Why tasks are not unrolled: there is one first reason, and none where their jobs are a table.
use Rattle.std.proofs.Common.{◌≡◌, ◌≢◌, ◌∙◌, ℕ, suc, ◌+◌, ◌*◌, ◌<◌, ◌≤◌, ◌⊎◌, inl, inr, Bool, true, false, cond, List, [], ◌∷◌, ◌++◌, length, map, take, drop, get_or, refl, sym, ap, subst, arith, drop-cons}
use Rattle.std.specs.Prelude.{All, Contains, filter, nat_lt}
use Rattle.std.proofs.lemmas.Bool.{cases_lt, lt-ltb}
use Rattle.std.proofs.lemmas.List.{get_or-map, length-map, length-take-le, take-append-drop}
use Rattle.std.proofs.lemmas.List.Concat.{flat_map-append}
use Rattle.std.proofs.lemmas.List.Elements.{All-contains, Contains-append_left, Contains-append_right, Contains-get_or}
use Rattle.std.proofs.lemmas.List.FromFn.{get_or-range_with_len, length-range_with_len}
use Rattle.std.proofs.Math.Nat.{mul-le-mul_left}
use Rattle.lists.specs.Numbers.{numbers_below}
use Rattle.lists.proofs.Elements.{contains-first, contains-rest, head_or_tail}
use Rattle.lists.proofs.Splits.{front-within}
use Rattle.job_model.specs.Table.{IsJob, IsTable, table_of}
use Rattle.task_unroll.specs.declared.task.Task.{Task}
use Rattle.task_unroll.specs.declared.task.Policy.{Policy}
use Rattle.task_unroll.specs.declared.fault.TaskFault.{TaskFault}
use Rattle.task_unroll.specs.declared.fault.TaskFault.TheVariants as fault
use Rattle.task_unroll.specs.Laws.{OneUnrollFault, UnrolledKeepsRules}
use Rattle.task_unroll.specs.TaskFaults.{no_task}
use Rattle.task_unroll.specs.Tasks.{AreTasks, IsTask}
use Rattle.task_unroll.specs.UnrollFaults.{FirstUnrollFault, IsFirstLate, IsLate}
use Rattle.task_unroll.specs.Unrolled.{release_at, released_job, released_jobs, releases_of, unrolled}

-- the task at an index, where no task before it is late
abbrev pub late-at : (tasks : List Task) (horizon i : ℕ) → i < length tasks → All (λ a. ¬ IsLate horizon a) (take i tasks) → IsLate horizon (get_or tasks i no_task) → IsFirstLate tasks horizon (i + 1)
late-at tasks horizon i below on_time late = record {
  before = take i tasks;
  here = get_or tasks i no_task;
  after = drop (suc i) tasks;
  split = sym (take-append-drop i tasks) ∙ ap (λ l. take i tasks ++ l) (drop-cons tasks i no_task below);
  place = ap (λ n. n + 1) (sym (length-take-le i tasks (omega arith)));
  on_time = on_time;
  late = late;
}

-- ---- a job that may be released too late is none of a table

-- a member that passes is kept
kept_at : {X : Type 0} (p : X → Bool) (x y : X) (ys : List X) → (Contains ys x → Contains (filter p ys) x) → p x ≡ true → (b : Bool) → p y ≡ b → (y ≡ x) ⊎ Contains ys x
    → Contains (cond b (y ∷ filter p ys) (filter p ys)) x
kept_at p x y ys rest passes true is (inl same) = subst (Contains (y ∷ filter p ys)) same (contains-first y (filter p ys))
kept_at p x y ys rest passes true is (inr more) = contains-rest y x (filter p ys) (rest more)
kept_at p x y ys rest passes false is (inl same) = let too : p y ≡ true = ap p same ∙ passes in absurd (cc (is, too))
kept_at p x y ys rest passes false is (inr more) = rest more

kept_by : {X : Type 0} (p : X → Bool) (xs : List X) (x : X) → Contains xs x → p x ≡ true → Contains (filter p xs) x
kept_by p [] x c passes = absurd (omega (arith, c.1))
kept_by p (y ∷ ys) x c passes = kept_at p x y ys (λ more. kept_by p ys x more passes) passes (p y) refl (head_or_tail y x ys c)

number_there : (n k : ℕ) → k < n → Contains (numbers_below n) k
number_there n k less =
    let is : get_or (numbers_below n) k k ≡ k = get_or-range_with_len 0 n k k less ∙ omega arith in
    subst (Contains (numbers_below n)) is (Contains-get_or (numbers_below n) k k (omega (arith, length-range_with_len 0 n)))

image_there : {X Y : Type 0} (f : X → Y) (xs : List X) (x : X) → Contains xs x → Contains (map f xs) (f x)
image_there f xs x (k, below, is) = (k, omega (arith, below, length-map xs f), get_or-map f xs k x (f x) below ∙ ap f is)

-- a job that is released before the horizon is among those of its task
job_there : (policy : Policy) (horizon : ℕ) (a : Task) → IsTask a → (k : ℕ) → release_at a k < horizon → Contains (released_jobs policy horizon a) (released_job policy a k)
job_there policy horizon a task k released =
    let most : k ≤ k * a.period = omega (arith, mul-le-mul_left k task.has_period) in
    image_there (released_job policy a) (releases_of a horizon) k
    (kept_by (λ n. nat_lt (release_at a n) horizon) (numbers_below horizon) k (number_there horizon k (omega (arith, most, released))) (lt-ltb (release_at a k) horizon released))

late_refused : (policy : Policy) (tasks : List Task) (horizon row : ℕ) → AreTasks tasks → IsFirstLate tasks horizon row → ¬ IsTable (table_of (unrolled policy tasks horizon))
late_refused policy tasks horizon row are first table =
    let at : Contains tasks first.here = subst (λ l. Contains l first.here) (sym first.split) (Contains-append_right first.before (first.here ∷ first.after) first.here (contains-first first.here first.after)) in
    let task = All-contains IsTask tasks first.here are.each at in
    let one = job_there policy horizon first.here task first.late.k first.late.released in
    let job = released_job policy first.here first.late.k in
    let back = Contains-append_left (released_jobs policy horizon first.here) (unrolled policy first.after horizon) job one in
    let all = Contains-append_right (unrolled policy first.before horizon) (unrolled policy (first.here ∷ first.after) horizon) job back in
    let parts : unrolled policy tasks horizon ≡ unrolled policy first.before horizon ++ unrolled policy (first.here ∷ first.after) horizon =
    ap (λ l. unrolled policy l horizon) first.split ∙ flat_map-append (released_jobs policy horizon) first.before (first.here ∷ first.after) in
    let there : Contains (unrolled policy tasks horizon) job = subst (λ l. Contains l job) (sym parts) all in
    let keeps : IsJob job = All-contains IsJob (unrolled policy tasks horizon) job table.jobs there in
    omega (arith, keeps.arrival_limit, first.late.late)

pub not_table : (policy : Policy) (tasks : List Task) (horizon : ℕ) → AreTasks tasks → (e : TaskFault) → e ≢ fault.Memory → FirstUnrollFault policy tasks horizon e
    → ¬ IsTable (table_of (unrolled policy tasks horizon))
not_table policy tasks horizon are (fault.Late row) other first table = late_refused policy tasks horizon row are first table
not_table policy tasks horizon are fault.TooMany other first table = omega (arith, first.1, table.few_jobs)
not_table policy tasks horizon are fault.Memory other first table = other refl
not_table policy tasks horizon are (fault.Csv e) other first table = first
not_table policy tasks horizon are (fault.OverLimit row column) other first table = first
not_table policy tasks horizon are (fault.ZeroPeriod row) other first table = first
not_table policy tasks horizon are (fault.SpanReversed row) other first table = first
not_table policy tasks horizon are (fault.ZeroCost row) other first table = first
not_table policy tasks horizon are (fault.Twice row earlier) other first table = first

pub unrolled_keeps_rules : UnrolledKeepsRules
unrolled_keeps_rules policy tasks horizon are table e other first = not_table policy tasks horizon are e other first table

-- ---- one first reason

-- no task before the first that is late is late
late_earlier : (tasks : List Task) (horizon p q : ℕ) (r : IsFirstLate tasks horizon p) (s : IsFirstLate tasks horizon q) → length r.before < length s.before → ⊥
late_earlier tasks horizon p q r s less =
    let (tail, is) = front-within r.before r.here r.after s.before s.here s.after (sym r.split ∙ s.split) less in
    let there : Contains s.before r.here = subst (λ l. Contains l r.here) (sym is) (Contains-append_right r.before (r.here ∷ tail) r.here (contains-first r.here tail)) in
    All-contains (λ a. ¬ IsLate horizon a) s.before r.here s.on_time there r.late

one_late : (tasks : List Task) (horizon p q : ℕ) → IsFirstLate tasks horizon p → IsFirstLate tasks horizon q → p ≡ q
one_late tasks horizon p q r s = elim (cases_lt (length r.before) (length s.before)) [
  | inl less ↦ absurd (late_earlier tasks horizon p q r s less)
  | inr more ↦ elim (cases_lt (length s.before) (length r.before)) [
    | inl less ↦ absurd (late_earlier tasks horizon q p s r less)
    | inr other ↦ omega (arith, r.place, s.place, more, other)
  ]
]

none_late : (tasks : List Task) (horizon row : ℕ) → IsFirstLate tasks horizon row → All (λ a. ¬ IsLate horizon a) tasks → ⊥
none_late tasks horizon row r on_time =
    let there : Contains tasks r.here = subst (λ l. Contains l r.here) (sym r.split) (Contains-append_right r.before (r.here ∷ r.after) r.here (contains-first r.here r.after)) in
    All-contains (λ a. ¬ IsLate horizon a) tasks r.here on_time there r.late

pub one_unroll_fault : OneUnrollFault
one_unroll_fault policy tasks horizon (fault.Late p) (fault.Late q) e_other f_other a b = ap fault.Late (one_late tasks horizon p q a b)
one_unroll_fault policy tasks horizon (fault.Late p) fault.TooMany e_other f_other a b = absurd (none_late tasks horizon p a b.0)
one_unroll_fault policy tasks horizon (fault.Late p) fault.Memory e_other f_other a b = absurd (f_other refl)
one_unroll_fault policy tasks horizon (fault.Late p) (fault.Csv e) e_other f_other a b = absurd b
one_unroll_fault policy tasks horizon (fault.Late p) (fault.OverLimit row column) e_other f_other a b = absurd b
one_unroll_fault policy tasks horizon (fault.Late p) (fault.ZeroPeriod row) e_other f_other a b = absurd b
one_unroll_fault policy tasks horizon (fault.Late p) (fault.SpanReversed row) e_other f_other a b = absurd b
one_unroll_fault policy tasks horizon (fault.Late p) (fault.ZeroCost row) e_other f_other a b = absurd b
one_unroll_fault policy tasks horizon (fault.Late p) (fault.Twice row earlier) e_other f_other a b = absurd b
one_unroll_fault policy tasks horizon fault.TooMany (fault.Late q) e_other f_other a b = absurd (none_late tasks horizon q b a.0)
one_unroll_fault policy tasks horizon fault.TooMany fault.TooMany e_other f_other a b = refl
one_unroll_fault policy tasks horizon fault.TooMany fault.Memory e_other f_other a b = absurd (f_other refl)
one_unroll_fault policy tasks horizon fault.TooMany (fault.Csv e) e_other f_other a b = absurd b
one_unroll_fault policy tasks horizon fault.TooMany (fault.OverLimit row column) e_other f_other a b = absurd b
one_unroll_fault policy tasks horizon fault.TooMany (fault.ZeroPeriod row) e_other f_other a b = absurd b
one_unroll_fault policy tasks horizon fault.TooMany (fault.SpanReversed row) e_other f_other a b = absurd b
one_unroll_fault policy tasks horizon fault.TooMany (fault.ZeroCost row) e_other f_other a b = absurd b
one_unroll_fault policy tasks horizon fault.TooMany (fault.Twice row earlier) e_other f_other a b = absurd b
one_unroll_fault policy tasks horizon fault.Memory f e_other f_other a b = absurd (e_other refl)
one_unroll_fault policy tasks horizon (fault.Csv e) f e_other f_other a b = absurd a
one_unroll_fault policy tasks horizon (fault.OverLimit row column) f e_other f_other a b = absurd a
one_unroll_fault policy tasks horizon (fault.ZeroPeriod row) f e_other f_other a b = absurd a
one_unroll_fault policy tasks horizon (fault.SpanReversed row) f e_other f_other a b = absurd a
one_unroll_fault policy tasks horizon (fault.ZeroCost row) f e_other f_other a b = absurd a
one_unroll_fault policy tasks horizon (fault.Twice row earlier) f e_other f_other a b = absurd a
