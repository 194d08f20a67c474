-- What a window says of the jobs that have not started, without precedence.
use Rattle.std.proofs.Common.{◌≡◌, ℕ, ◌<◌, ◌≤◌, ◌⊎◌, inl, inr, Bool, true, false, cond, List, [], ◌∷◌, length, map, filter, min, max, Option, Some, None, refl, ap, arith}
use Rattle.std.specs.Prelude.{nat_le, nat_lt, not, ◌&&◌}
use Rattle.std.specs.Option.{option_map_or}
use Rattle.std.proofs.lemmas.Bool.{and_parts, and_from, ltb-true, lt-ltb, not_from_false, false≢true}
use Rattle.job_sets.specs.Subset.{is_member}
use Rattle.job_sets.proofs.Members.{is_member-filter, is_member-range, is_member-cons}
use Rattle.job_model.specs.declared.job_row.Job.{Job}
use Rattle.lists.specs.Numbers.{least, numbers_below}
use Rattle.job_model.specs.Table.{table_of, job_at, has_urgency_over}
use Rattle.sag_time.specs.Interval.{Interval}
use Rattle.start_windows.specs.declared.StartWindow.{StartWindow}
use Rattle.start_windows.specs.Window.{is_candidate, candidates, latest_ready, ready_beside, earliest_start, certain_start, overtaken_from, is_before, last_before, start_window}
use Rattle.start_windows.proofs.WindowFacts.{IsWindow, IsWindow-from}

-- the least of a list is not above what f makes of a member
least-le : (f : ℕ → ℕ) (xs : List ℕ) (x : ℕ) → is_member x xs ≡ true → (l : ℕ) × (least (map f xs) ≡ Some l) × (l ≤ f x)
least-le f [] x there = absurd (false≢true there)
least-le f (y ∷ ys) x there = by (least (map f ys)) refl (is_member-cons x y ys there) (least-le f ys x)
  where
    by : (o : Option ℕ) → least (map f ys) ≡ o → (y ≡ x) ⊎ (is_member x ys ≡ true) → (is_member x ys ≡ true → (l : ℕ) × (least (map f ys) ≡ Some l) × (l ≤ f x)) →
        (l : ℕ) × (Some (option_map_or (λ z. min (f y) z) o (f y)) ≡ Some l) × (l ≤ f x)
    by None e (inl same) rest = (f y, refl, omega (arith, ap f same))
    by None e (inr later) rest = let r = rest later in cc
    by (Some z) e (inl same) rest = (min (f y) z, refl, omega (arith, ap f same))
    by (Some z) e (inr later) rest = let r = rest later in let same : z ≡ r.0 = cc in (min (f y) z, refl, omega (arith, same, r.2))

-- what the window of job j says, of itself and of the jobs outside the set
pub record OneWindow (jobs : List Job) (set : List ℕ) (first : Interval) (j : ℕ) (window : StartWindow) : Type 0 where
  pub is_job : j < length jobs
  pub outside : is_member j set ≡ false
  pub in_order : window.est ≤ window.lst
  pub core : first.lo ≤ window.est
  pub released : (job_at (table_of jobs) j).rmin ≤ window.est
  pub quiet : (x : ℕ) → x < length jobs → is_member x set ≡ false → first.hi < window.lst → window.lst ≤ (job_at (table_of jobs) x).rmax
  pub overtaken : (x : ℕ) → x < length jobs → is_member x set ≡ false → has_urgency_over (table_of jobs) x j ≡ true → window.lst < (job_at (table_of jobs) x).rmax

some_since : (b : Bool) (x y : StartWindow) → cond b (Some x) None ≡ Some y → (b ≡ true) × (x ≡ y)
some_since true x y e = (refl, cc)
some_since false x y e = cc

module _ (jobs : List Job) (set : List ℕ) (ends : List (ℕ × Interval)) (first : Interval) where
  -- without precedence each job outside the set is a candidate
  candidate : (x : ℕ) → x < length jobs → is_member x set ≡ false → is_candidate (table_of jobs) set x ≡ true
  candidate x below out =
      and_from (nat_lt x (length jobs) && not (is_member x set)) true
      (and_from (nat_lt x (length jobs)) (not (is_member x set)) (lt-ltb x (length jobs) below) (not_from_false (is_member x set) out)) refl

  among : (x : ℕ) → x < length jobs → is_member x set ≡ false → is_member x (candidates (table_of jobs) set) ≡ true
  among x below out =
      is_member-filter (is_candidate (table_of jobs) set) (numbers_below (length jobs)) x (candidate x below out)
      (is_member-range 0 (length jobs) x (omega arith) (omega (arith, below)))

  -- some candidate certainly starts once the core is free and x is there
  certain-le : (x : ℕ) → x < length jobs → is_member x set ≡ false → certain_start (table_of jobs) set ends first ≤ max first.hi (job_at (table_of jobs) x).rmax
  certain-le x below out =
      let found = least-le (latest_ready (table_of jobs) ends) (candidates (table_of jobs) set) x (among x below out) in
      let ready : latest_ready (table_of jobs) ends x ≤ (job_at (table_of jobs) x).rmax = omega arith in
      rw found.1 (omega (arith, found.2, ready))

  -- the last moment before a limit that is after est
  last-lt : (t est l : ℕ) → is_before est (Some l) ≡ true → last_before (Some l) t < l
  last-lt t est l e = omega (arith, ltb-true est l e)

  pub OneWindow-from : (j : ℕ) (window : StartWindow) → start_window (table_of jobs) set ends first j ≡ Some window → OneWindow jobs set first j window
  OneWindow-from j window e =
      let table = table_of jobs in
      let est : ℕ = earliest_start table ends first j in
      let certain : ℕ = certain_start table set ends first in
      let limit : Option ℕ = overtaken_from table set ends j in
      let found = some_since (is_candidate table set j && nat_le est certain && is_before est limit) (record { est = est; lst = last_before limit certain }) window e in
      let two = and_parts (is_candidate table set j && nat_le est certain) (is_before est limit) found.0 in
      let facts : IsWindow table set ends first j window = IsWindow-from table set ends first j window e in
      let is_est : est ≡ window.est = ap (λ w. w.est) found.1 in
      let is_lst : last_before limit certain ≡ window.lst = ap (λ w. w.lst) found.1 in
      record {
        is_job = facts.is_job;
        outside = facts.outside;
        in_order = facts.in_order;
        core = omega (arith, is_est);
        released = omega (arith, is_est);
        quiet = λ x below out late. omega (arith, facts.certain, late, certain-le x below out);
        overtaken = λ x below out urgent.
            let over = λ (y : ℕ). has_urgency_over table y j in
            let there = is_member-filter over (candidates table set) x urgent (among x below out) in
            let l = least-le (ready_beside table ends j) (filter over (candidates table set)) x there in
            let ready : ready_beside table ends j x ≤ (job_at table x).rmax = omega arith in
            let less : last_before limit certain < l.0 = rw l.1 (last-lt certain est l.0 (rw l.1 at two.1)) in
            omega (arith, is_lst, less, l.2, ready);
      }
