-- What the test whether a state covers the first jobs of a run comes to.
--     prefix-below           the first jobs are jobs of the table
--     core_end-same          of the same jobs, in any order, a core has the same end
--     last_start-greatest    the last start of the first jobs is their greatest
--     covers-tested          where the parts of the test are true, the state covers the first jobs
--     tests-from_covers      and where it does, they are
use Rattle.std.proofs.Common.{◌≡◌, ℕ, zero, suc, ◌+◌, ◌<◌, ◌≤◌, true, List, [], ◌∷◌, ◌++◌, length, map, refl, ap, arith, ⊎_elim, sym, ◌∙◌, max, All, take}
use Rattle.std.specs.Prelude.{nat_le, nat_lt, slice_index, ◌==◌}
use Rattle.std.proofs.lemmas.Bool.{eqb-true, false≢true, or_cases}
use Rattle.std.proofs.lemmas.List.{take_more}
use Rattle.std.proofs.lemmas.List.Elements.{All-from_recursion, All-take}
use Rattle.std.specs.Cmp.Lexicographic.{as_long}
use Rattle.job_sets.specs.Subset.{is_member}
use Rattle.job_sets.proofs.Members.{is_member-first, is_member-push}
use Rattle.lists.specs.Numbers.{greatest}
use Rattle.job_model.specs.Table.{Table}
use Rattle.run_meaning.specs.declared.places.Place.{Place}
use Rattle.run_meaning.specs.Ready.{core_of, finish_of, start_of}
use Rattle.run_meaning.specs.Order.{dispatch_order}
use Rattle.run_meaning.proofs.OrderLaws.{length-dispatch_order}
use Rattle.run_meaning.proofs.Sorted.{dispatch_below}
use Rattle.start_windows.proofs.SomeEligible.{greatest-member}
use Rattle.sag_step.specs.State.{SystemState}
use Rattle.sag_step.specs.Shape.{HasShape}
use Rattle.run_cover.specs.Covers.{Covers, core_end, cores_where, last_start, prefix}
use Rattle.run_cover.proofs.CoreEnds.{core_end-le, greatest-le, last_start-push, le-core_end}
use Rattle.run_cover.proofs.FinishTimes.{AllHold}
use Rattle.run_cover.proofs.NextInOrder.{next_in_order}
use Rattle.run_cover.proofs.NextJob.{IsRun, IsNextJob}

pub prefix-below : (table : Table) (schedule : List Place) (count : ℕ) → All (λ j. j < length table.jobs) (prefix table schedule count)
prefix-below table schedule count =
    All-take (λ j. j < length table.jobs) count (dispatch_order table schedule) (All-from_recursion (λ j. j < length table.jobs) (dispatch_order table schedule) (dispatch_below table schedule))

-- of the same jobs, in any order, a core has the same end
pub core_end-same : (scenario : List (ℕ × ℕ)) (schedule : List Place) (xs ys : List ℕ) → ((j : ℕ) → is_member j xs ≡ is_member j ys) → (core : ℕ) → core_end scenario schedule xs core ≡ core_end scenario schedule ys core
core_end-same scenario schedule xs ys same core =
    let up = core_end-le scenario schedule xs core (core_end scenario schedule ys core) (λ i there on_core. le-core_end scenario schedule ys core i (sym (same i) ∙ there) on_core) in
    let down = core_end-le scenario schedule ys core (core_end scenario schedule xs core) (λ i there on_core. le-core_end scenario schedule xs core i (same i ∙ there) on_core) in
    omega (arith, up, down)

module _ {table : Table} {m : ℕ} {scenario : List (ℕ × ℕ)} {schedule : List Place} (run : IsRun table m scenario schedule) where
  -- the last start of the first jobs is their greatest
  pub last_start-greatest : (members : List ℕ) (count : ℕ) → count ≤ length table.jobs → ((j : ℕ) → is_member j members ≡ is_member j (prefix table schedule count)) →
      greatest (map (start_of schedule) members) ≡ last_start schedule (prefix table schedule count)
  last_start-greatest members zero fits same =
      let none : greatest (map (start_of schedule) members) ≤ 0 = greatest-le (start_of schedule) members 0 (λ i there. absurd (false≢true (sym (same i) ∙ there))) in
      let last : last_start schedule (prefix table schedule 0) ≡ 0 = refl in
      omega (arith, none, last)
  last_start-greatest members (suc k) fits same =
      let j = slice_index (dispatch_order table schedule) k in
      let jobs = prefix table schedule k in
      let next : IsNextJob table schedule jobs j = next_in_order run k (omega (arith, fits)) in
      let more : k + 1 ≡ suc k = omega arith in
      let whole : prefix table schedule (suc k) ≡ jobs ++ j ∷ [] =
      ap (λ n. take n (dispatch_order table schedule)) (sym more) ∙ take_more (dispatch_order table schedule) k 0 (omega (arith, length-dispatch_order table schedule, fits)) in
      let last : last_start schedule (prefix table schedule (suc k)) ≡ start_of schedule j = ap (last_start schedule) whole ∙ last_start-push scenario schedule jobs j in
      let is = λ (i : ℕ). same i ∙ ap (is_member i) whole ∙ is_member-push i j jobs in
      let up : greatest (map (start_of schedule) members) ≤ start_of schedule j = greatest-le (start_of schedule) members (start_of schedule j) (λ i there. ⊎_elim
      (λ (here : (j == i) ≡ true). omega (arith, ap (start_of schedule) (eqb-true j i here)))
      (λ (old : is_member i jobs ≡ true). next.no_later i old)
      (or_cases (j == i) (is_member i jobs) (sym (is i) ∙ there))) in
      let down : start_of schedule j ≤ greatest (map (start_of schedule) members) = greatest-member (start_of schedule) j members (is j ∙ is_member-first j j jobs refl) in
      omega (arith, up, down, last)

  module _ (state : SystemState) (shape : HasShape table m state) (count : ℕ) (fits : count ≤ length table.jobs) where
    abbrev set : List ℕ
    set = state.set.members

    abbrev end : ℕ → ℕ
    end = core_end scenario schedule set

    -- the clauses of `Covers`, of the jobs of the state's set
    pub record PassesTests : Type 0 where
      pub same : (j : ℕ) → is_member j state.set.members ≡ is_member j (prefix table schedule count)
      pub certain : (x : ℕ) → x < length state.high → x < cores_where (length state.high) (λ core. nat_le (core_end scenario schedule state.set.members core) (slice_index state.high x))
      pub possible : (x : ℕ) → x < length state.low →
          cores_where (length state.low) (λ core. nat_lt (max (core_end scenario schedule state.set.members core) (greatest (map (start_of schedule) state.set.members))) (slice_index state.low x)) ≤ x
      pub tracked : AllHold (finish_of scenario schedule) state.ends
      pub last : (i : ℕ) → is_member i state.last.members ≡ true → finish_of scenario schedule i ≡ core_end scenario schedule state.set.members (core_of schedule i)

    high_long : length state.high ≡ m
    high_long = sym (as_long nat_le state.low state.high shape.in_order) ∙ shape.low_count

    module _ (same : (j : ℕ) → is_member j state.set.members ≡ is_member j (prefix table schedule count)) where
      ends : (core : ℕ) → core_end scenario schedule state.set.members core ≡ core_end scenario schedule (prefix table schedule count) core
      ends = core_end-same scenario schedule state.set.members (prefix table schedule count) same

      start : greatest (map (start_of schedule) state.set.members) ≡ last_start schedule (prefix table schedule count)
      start = last_start-greatest state.set.members count fits same

      certain_is : (x : ℕ) → cores_where (length state.high) (λ core. nat_le (core_end scenario schedule state.set.members core) (slice_index state.high x))
          ≡ cores_where m (λ core. nat_le (core_end scenario schedule (prefix table schedule count) core) (slice_index state.high x))
      certain_is x = λ k. cores_where (high_long k) (λ core. nat_le (ends core k) (slice_index state.high x))

      possible_is : (x : ℕ) → cores_where (length state.low) (λ core. nat_lt (max (core_end scenario schedule state.set.members core) (greatest (map (start_of schedule) state.set.members))) (slice_index state.low x))
          ≡ cores_where m (λ core. nat_lt (max (core_end scenario schedule (prefix table schedule count) core) (last_start schedule (prefix table schedule count))) (slice_index state.low x))
      possible_is x = λ k. cores_where (shape.low_count k) (λ core. nat_lt (max (ends core k) (start k)) (slice_index state.low x))

    pub covers-tested : PassesTests → Covers table m scenario schedule count state
    covers-tested t = record {
      set = t.same;
      certain = λ x below. omega (arith, t.certain x (omega (arith, below, high_long)), certain_is t.same x);
      possible = λ x below. omega (arith, t.possible x (omega (arith, below, shape.low_count)), possible_is t.same x);
      tracked = t.tracked;
      last = λ i there. t.last i there ∙ ends t.same (core_of schedule i);
    }

    pub tests-from_covers : Covers table m scenario schedule count state → PassesTests
    tests-from_covers c = record {
      same = c.set;
      certain = λ x below. omega (arith, c.certain x (omega (arith, below, high_long)), certain_is c.set x);
      possible = λ x below. omega (arith, c.possible x (omega (arith, below, shape.low_count)), possible_is c.set x);
      tracked = c.tracked;
      last = λ i there. c.last i there ∙ sym (ends c.set (core_of schedule i));
    }
