-- Which states cover which prefixes of worked schedules, computed.
use Rattle.std.proofs.Common.{◌≡◌, ℕ, Bool, true, false, ◌&&◌, List, [], ◌∷◌, refl, max}
use Rattle.std.specs.Prelude.{nat_lt, nat_le, slice_index, ◌==◌}
use Rattle.std.specs.List.{list_all}
use Rattle.job_sets.specs.Subset.{is_member}
use Rattle.lists.specs.Numbers.{numbers_below}
use Rattle.job_model.specs.Table.{Table}
use Rattle.job_model.proofs.Tables.{table_a, table_b}
use Rattle.sag_time.specs.Interval.{Interval, holds}
use Rattle.run_meaning.specs.declared.places.Place.{Place}
use Rattle.run_meaning.specs.Legal.{Legal}
use Rattle.run_meaning.proofs.LegalTest.{Legal-from_test}
use Rattle.run_meaning.specs.Ready.{core_of, finish_of}
use Rattle.sag_step.specs.State.{SystemState}
use Rattle.run_cover.specs.Covers.{prefix, core_end, last_start, cores_where}

-- the parts of `Covers`, tested
abbrev covers_test : Table → ℕ → List (ℕ × ℕ) → List Place → ℕ → SystemState → Bool
covers_test table m scenario schedule count state =
    let jobs = prefix table schedule count in
    list_all (λ j. is_member j jobs) state.set.members && list_all (λ j. is_member j state.set.members) jobs
    && list_all (λ x. nat_lt x (cores_where m (λ core. nat_le (core_end scenario schedule jobs core) (slice_index state.high x)))) (numbers_below m)
    && list_all (λ x. nat_le (cores_where m (λ core. nat_lt (max (core_end scenario schedule jobs core) (last_start schedule jobs)) (slice_index state.low x))) x) (numbers_below m)
    && list_all (λ e. holds e.1 (finish_of scenario schedule e.0)) state.ends
    && list_all (λ i. finish_of scenario schedule i == core_end scenario schedule jobs (core_of schedule i)) state.last.members

abbrev pub place : ℕ → ℕ → Place
place start core = record { start = start; core = core }

-- no job is known to be last on its core
abbrev state : ℕ → List ℕ → List ℕ → List ℕ → List (ℕ × Interval) → SystemState
state size set low high ends = record {
  set = record { size = size; members = set };
  low = low;
  high = high;
  ends = ends;
  last = record { size = size; members = [] };
}

-- the less urgent job 1 runs first, from 0 to 3, and job 0 from 3 to 5
abbrev run_a : ℕ → SystemState → Bool
run_a = covers_test table_a 1 ((1, 2) ∷ (0, 3) ∷ []) (place 3 0 ∷ place 0 0 ∷ [])

a_one : run_a 1 (state 2 (1 ∷ []) (2 ∷ []) (3 ∷ []) []) ≡ true
a_one = refl

-- the state of the other job
a_other : run_a 1 (state 2 (0 ∷ []) (1 ∷ []) (2 ∷ []) []) ≡ false
a_other = refl

a_both : run_a 2 (state 2 (0 ∷ 1 ∷ []) (3 ∷ []) (5 ∷ []) []) ≡ true
a_both = refl

-- jobs 0 and 1 start at 0 on two cores, and job 2 waits for job 0
abbrev run_b : ℕ → SystemState → Bool
run_b = covers_test table_b 2 ((0, 4) ∷ (0, 1) ∷ (0, 2) ∷ []) (place 0 0 ∷ place 0 1 ∷ place 4 0 ∷ [])

abbrev end_0 : List (ℕ × Interval)
end_0 = (0, record { lo = 2; hi = 4 }) ∷ []

b_none : run_b 0 (state 3 [] (0 ∷ 0 ∷ []) (0 ∷ 0 ∷ []) []) ≡ true
b_none = refl

b_one : run_b 1 (state 3 (0 ∷ []) (0 ∷ 2 ∷ []) (0 ∷ 4 ∷ []) end_0) ≡ true
b_one = refl

b_two : run_b 2 (state 3 (0 ∷ 1 ∷ []) (1 ∷ 2 ∷ []) (1 ∷ 4 ∷ []) end_0) ≡ true
b_two = refl

b_three : run_b 3 (state 3 (0 ∷ 1 ∷ 2 ∷ []) (2 ∷ 4 ∷ []) (3 ∷ 6 ∷ []) []) ≡ true
b_three = refl

-- a certain availability that is too early
b_early : run_b 3 (state 3 (0 ∷ 1 ∷ 2 ∷ []) (2 ∷ 4 ∷ []) (3 ∷ 5 ∷ []) []) ≡ false
b_early = refl

-- a possible availability that is too late: core 1 is free from 1
b_late : run_b 2 (state 3 (0 ∷ 1 ∷ []) (2 ∷ 2 ∷ []) (2 ∷ 4 ∷ []) end_0) ≡ false
b_late = refl

-- an interval of job 0 that ends before it does
b_short : run_b 2 (state 3 (0 ∷ 1 ∷ []) (1 ∷ 2 ∷ []) (1 ∷ 4 ∷ []) ((0, record { lo = 2; hi = 3 }) ∷ [])) ≡ false
b_short = refl

-- on one core the three run one after another
pub one_core_legal : Legal table_b 1 ((0, 4) ∷ (0, 1) ∷ (0, 2) ∷ []) (place 0 0 ∷ place 4 0 ∷ place 5 0 ∷ [])
one_core_legal = Legal-from_test _ _ _ _ refl
