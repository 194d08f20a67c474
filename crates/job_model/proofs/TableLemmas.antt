-- When rows are a table, and what the places of IDs say of jobs.
use Rattle.std.proofs.Common.{◌≡◌, ◌≢◌, ◌∙◌, ℕ, suc, ◌+◌, ◌<◌, ◌≤◌, Bool, true, false, ◌&&◌, List, [], ◌∷◌, ◌++◌, None, Some, length, map, not, take, drop, get_or, position, slice_get, refl, sym, ap, arith, lit≤, eq-eqb, drop-cons, length-append, nat_eq}
use Rattle.std.proofs.lemmas.Bool.Decides.{nat_tests}
use Rattle.std.specs.Prelude.{All, AllPairs, nat_lt}
use Rattle.std.specs.List.{list_any}
use Rattle.std.specs.List.Sorted.{IsStrictlySortedBy}
use Rattle.std.proofs.lemmas.List.{get_or-map, length-map, map-append, length-take-le, take-append-drop, get_or_append_left}
use Rattle.std.proofs.lemmas.List.Elements.{All-push}
use Rattle.std.proofs.lemmas.List.Folds.{list_any_at}
use Rattle.std.proofs.lemmas.List.Quantifiers.{all_pairs_push, position-Some}
use Rattle.std.proofs.lemmas.Option.{get_or_from_slice_get, slice_get_within}
use Rattle.std.proofs.Math.Seq.{get_or-append_seam}
use Rattle.indexmap.specs.IndexSet.{insert_key}
use Rattle.job_model.specs.declared.job_row.Job.{Job}
use Rattle.job_model.specs.declared.limits.TheConstants.{MOST_JOBS, MOST_ARRIVAL, MOST_COST}
use Rattle.job_model.specs.declared.fault.TableFault.{TableFault}
use Rattle.job_model.specs.declared.fault.TableFault.TheVariants as fault
use Rattle.job_model.specs.Table.{HaveOneId, IsJob, IsTable, Walk, id_of, no_job, table_of}
use Rattle.job_model.specs.TableFaults.{FirstTableFault, ReachedJobRow, first_above, limited, spans}

none_below : (k : ℕ) → k < 0 → ⊥
none_below k h = omega (arith, h)

no_walk : (a b n : ℕ) → ¬ Walk [] a b (suc n)
no_walk a b n w = none_below w.1.0 w.1.1

-- few jobs that keep their rules and have different IDs are a table
pub IsTable-jobs : (jobs : List Job) → length jobs ≤ MOST_JOBS → All IsJob jobs → AllPairs (λ a b. ¬ HaveOneId a b) jobs → IsTable (table_of jobs)
unfolding IsStrictlySortedBy
IsTable-jobs jobs few each differ = record {
  few_jobs = few;
  jobs = each;
  ids_differ = differ;
  few_edges = lit≤ tt;
  edges_rise = tt;
  edges_in_range = λ k d h. absurd (none_below k h);
  no_cycle = λ j n. no_walk j j n;
}

pub IsTable-empty : IsTable (table_of [])
IsTable-empty = IsTable-jobs [] (lit≤ tt) (λ k d h. absurd (none_below k h)) (λ i j d less below same. none_below j below)

-- the test whether an ID is that of these numbers
abbrev pub is_id : ℕ → ℕ → ℕ × ℕ → Bool
is_id task job y = nat_eq task y.0 && nat_eq job y.1

pub is_id-itself : (task job : ℕ) → is_id task job (task, job) ≡ true
is_id-itself task job = rw (eq-eqb task task refl, eq-eqb job job refl) refl

both_true : (a b : Bool) → (a && b) ≡ true → (a ≡ true) × (b ≡ true)
both_true true b e = (refl, e)
both_true false b e = cc

pub is_id-same : (task job : ℕ) (y : ℕ × ℕ) → is_id task job y ≡ true → (y.0 ≡ task) × (y.1 ≡ job)
is_id-same task job y e =
    let both = both_true (nat_eq task y.0) (nat_eq job y.1) e in
    (grind (arith, both.0), grind (arith, both.1))

-- the first place of an ID among those of the jobs is the number of a job of that ID
pub job-found : (jobs : List Job) (keys : List (ℕ × ℕ)) (task job n : ℕ) → keys ≡ map id_of jobs → position (is_id task job) keys ≡ Some n
    → (n < length jobs) × (id_of (get_or jobs n no_job) ≡ (task, job))
job-found jobs keys task job n keys_are e =
    let at = position-Some (is_id task job) keys n (id_of no_job) e in
    let below : n < length jobs = omega (arith, at.0, ap length keys_are, length-map jobs id_of) in
    let read : get_or keys n (id_of no_job) ≡ id_of (get_or jobs n no_job) = rw keys_are (get_or-map id_of jobs n no_job (id_of no_job) below) in
    let same = is_id-same task job (id_of (get_or jobs n no_job)) (rw read at at.1) in
    (below, λ j. (same.0 j, same.1 j))

-- an ID that is not among those of the jobs is no job's
id-new : (jobs : List Job) (a : Job) → list_any (is_id a.task a.job) (map id_of jobs) ≡ false → (k : ℕ) (d : Job) → k < length jobs → ¬ HaveOneId (get_or jobs k d) a
id-new jobs a none k d below same =
    let read = get_or-map id_of jobs k d (id_of d) below in
    let here : is_id a.task a.job (get_or (map id_of jobs) k (id_of d)) ≡ true = rw (read, same.0, same.1) (is_id-itself a.task a.job) in
    let some = list_any_at (is_id a.task a.job) (map id_of jobs) k (id_of d) (omega (arith, length-map jobs id_of)) here in
    cc (none, some)

-- one more job of a new ID
pub IsTable-push : (jobs : List Job) (a : Job) → length jobs < MOST_JOBS → IsTable (table_of jobs) → IsJob a → list_any (is_id a.task a.job) (map id_of jobs) ≡ false → IsTable (table_of (jobs ++ a ∷ []))
IsTable-push jobs a few table job none =
    IsTable-jobs (jobs ++ a ∷ []) (omega (arith, length-append jobs (a ∷ [])))
    (All-push IsJob jobs a table.jobs job)
    (all_pairs_push (λ x y. ¬ HaveOneId x y) jobs a table.ids_differ (id-new jobs a none))

-- what an insert of the ID of a says where the set has the IDs of the jobs: whether it is new, the keys after it, and its place
pub record Inserts (jobs : List Job) (a : Job) (keys new_keys : List (ℕ × ℕ)) (place : ℕ) (is_new : Bool) : Type 0 where
  pub ids : keys ≡ map id_of jobs
  pub added : is_new ≡ not (list_any (is_id a.task a.job) keys)
  pub keys_are : new_keys ≡ insert_key (λ x y. is_id x.0 x.1 y) keys (id_of a)
  pub stored : (y : ℕ × ℕ) × (slice_get new_keys place ≡ Some y) × (is_id a.task a.job y ≡ true)

not_false : (b : Bool) → not b ≡ false → b ≡ true
not_false true e = refl
not_false false e = cc

not_true : (b : Bool) → not b ≡ true → b ≡ false
not_true true e = cc
not_true false e = refl

-- an ID that is not new is that of the job at its place
pub id-repeats : (jobs : List Job) (a : Job) (keys new_keys : List (ℕ × ℕ)) (place : ℕ) → Inserts jobs a keys new_keys place false
    → (place < length jobs) × HaveOneId (get_or jobs place no_job) a
id-repeats jobs a keys new_keys place h =
    let there = not_false (list_any (is_id a.task a.job) keys) (sym h.added) in
    let same_keys : new_keys ≡ keys = rw there at h.keys_are in
    let (y, at, same) = h.stored in
    let read = rw (same_keys, h.ids) at at in
    let below : place < length jobs = omega (arith, slice_get_within (map id_of jobs) place y read, length-map jobs id_of) in
    let id : id_of (get_or jobs place no_job) ≡ y = sym (get_or-map id_of jobs place no_job (id_of no_job) below) ∙ get_or_from_slice_get (map id_of jobs) place y (id_of no_job) read in
    let both = is_id-same a.task a.job y same in
    (below, (ap (λ (p : ℕ × ℕ). p.0) id ∙ both.0, ap (λ (p : ℕ × ℕ). p.1) id ∙ both.1))

-- a job of a new ID goes last
pub id-added : (jobs : List Job) (a : Job) (keys new_keys : List (ℕ × ℕ)) (place : ℕ) → Inserts jobs a keys new_keys place true → length jobs < MOST_JOBS → IsTable (table_of jobs) → IsJob a
    → IsTable (table_of (jobs ++ a ∷ [])) × (new_keys ≡ map id_of (jobs ++ a ∷ []))
id-added jobs a keys new_keys place h few table job =
    let none = not_true (list_any (is_id a.task a.job) keys) (sym h.added) in
    let one_more : new_keys ≡ keys ++ id_of a ∷ [] = rw none at h.keys_are in
    (IsTable-push jobs a few table job (rw h.ids at none), one_more ∙ ap (λ l. l ++ id_of a ∷ []) h.ids ∙ sym (map-append id_of jobs (a ∷ [])))

-- the row at an index, where those before it are a table
abbrev pub reached : (rows : List Job) (i : ℕ) (d : Job) → i < length rows → length rows ≤ MOST_JOBS → IsTable (table_of (take i rows)) → ReachedJobRow rows (i + 1)
reached rows i d below few kept = record {
  before = take i rows;
  here = get_or rows i d;
  after = drop (suc i) rows;
  split = sym (take-append-drop i rows) ∙ ap (λ l. take i rows ++ l) (drop-cons rows i d below);
  place = ap (λ n. n + 1) (sym (length-take-le i rows (omega arith)));
  few = few;
  kept = kept;
}

-- a reached row is one of the rows
reached-at : (rows : List Job) (row : ℕ) (r : ReachedJobRow rows row) → (length r.before < length rows) × (get_or rows (length r.before) r.here ≡ r.here)
reached-at rows row r =
    (omega (arith, ap length r.split, length-append r.before (r.here ∷ r.after)), rw r.split (get_or-append_seam r.before r.here r.after r.here))

not_below : (m n : ℕ) → n ≤ m → nat_lt m n ≡ false
not_below m n h = grind (arith, nat_tests)

-- a job has nothing above its limit
pub limits-kept : (a : Job) → IsJob a → first_above (limited a) ≡ None
limits-kept a job =
    let one : nat_lt MOST_ARRIVAL a.rmin ≡ false = not_below MOST_ARRIVAL a.rmin (omega arith) in
    let two : nat_lt MOST_ARRIVAL a.rmax ≡ false = not_below MOST_ARRIVAL a.rmax (omega arith) in
    let three : nat_lt MOST_COST a.cmin ≡ false = not_below MOST_COST a.cmin (omega arith) in
    let four : nat_lt MOST_COST a.cmax ≡ false = not_below MOST_COST a.cmax (omega arith) in
    rw (one, two, three, four) refl

pub spans-kept : (a : Job) → IsJob a → first_above (spans a) ≡ None
spans-kept a job = rw (not_below a.rmax a.rmin (omega arith), not_below a.cmax a.cmin (omega arith)) refl

-- rows with a first broken rule are no table
pub no-table : (rows : List Job) (e : TableFault) → e ≢ fault.Memory → FirstTableFault rows e → ¬ IsTable (table_of rows)
no-table rows fault.TooMany other first table = omega (arith, first, table.few_jobs)
no-table rows (fault.OverLimit row column) other first table =
    let (below, at) = reached-at rows row first.0 in
    let job = rw at at (table.jobs (length first.0.before) first.0.here below) in
    let none = limits-kept first.0.here job in
    let some = first.1 in cc (none, some)
no-table rows (fault.SpanReversed row column) other first table =
    let (below, at) = reached-at rows row first.0 in
    let job = rw at at (table.jobs (length first.0.before) first.0.here below) in
    let none = spans-kept first.0.here job in
    let some = first.2 in cc (none, some)
no-table rows (fault.ZeroCost row) other first table =
    let (below, at) = reached-at rows row first.0 in
    let job : IsJob first.0.here = rw at at (table.jobs (length first.0.before) first.0.here below) in
    omega (arith, job.costs_something, first.3)
no-table rows (fault.Twice row earlier) other first table =
    let (r, job, k, place, is, same) = first in
    let (below, at) = reached-at rows row r in
    let front : get_or rows k no_job ≡ get_or r.before k no_job = rw r.split (get_or_append_left r.before (r.here ∷ r.after) no_job k place) in
    let last : get_or rows (length r.before) no_job ≡ r.here = rw r.split (get_or-append_seam r.before r.here r.after no_job) in
    table.ids_differ k (length r.before) no_job place below (rw (front, last) same)
no-table rows fault.Memory other first table = other refl
