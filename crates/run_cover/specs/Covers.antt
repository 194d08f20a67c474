-- What a system state says of the first jobs of a schedule. The literature argues that each run has its path in the graph (Nasri
-- and Brandenburg, RTSS 2017; Nasri, Nelissen and Brandenburg, ECRTS 2019), and names no such relation: this one is our own.
--     prefix table schedule count                       the first jobs by (start, urgency)
--     core_end scenario schedule jobs core              when the core has finished these jobs
--     last_start schedule jobs                          when the last of these jobs starts
--     cores_where m test                                how many of the m cores pass
--     Covers table m scenario schedule count state      the state covers the first jobs, so many
use Rattle.std.specs.Prelude.{◌≡◌, ℕ, Bool, List, ◌≤◌, ◌<◌, ◌-◌, ◌==◌, max, nat_le, nat_lt, length, map, filter, take, count_by, slice_index, All, IsTrue}
use Rattle.job_sets.specs.Subset.{is_member}
use Rattle.lists.specs.Numbers.{greatest, numbers_below}
use Rattle.job_model.specs.Table.{Table}
use Rattle.sag_time.specs.Interval.{holds}
use Rattle.run_meaning.specs.declared.places.Place.{Place}
use Rattle.run_meaning.specs.Ready.{start_of, core_of, finish_of}
use Rattle.run_meaning.specs.Order.{dispatch_order}
use Rattle.sag_step.specs.State.{SystemState}

-- the first jobs by (start, urgency)
abbrev pub prefix : Table → List Place → ℕ → List ℕ
prefix table schedule count = take count (dispatch_order table schedule)

-- when the core has finished these jobs, or 0 where it has none of them
abbrev pub core_end : List (ℕ × ℕ) → List Place → List ℕ → ℕ → ℕ
core_end scenario schedule jobs core = greatest (map (finish_of scenario schedule) (filter (λ j. core_of schedule j == core) jobs))

-- when the last of these jobs starts, or 0 where there is none
abbrev pub last_start : List Place → List ℕ → ℕ
last_start schedule jobs = slice_index (map (start_of schedule) jobs) (length jobs - 1)

-- how many of the m cores pass
abbrev pub cores_where : ℕ → (ℕ → Bool) → ℕ
cores_where m test = count_by test (numbers_below m)

-- The state has those jobs. At least x cores are free at the x-th certain availability. Fewer than x are free for the
-- next job before the x-th possible availability. The tracked jobs finish in their intervals. And each job that is last on
-- its core finishes when that core has finished all of them.
pub record Covers (table : Table) (m : ℕ) (scenario : List (ℕ × ℕ)) (schedule : List Place) (count : ℕ) (state : SystemState) : Type 0 where
  pub set : (j : ℕ) → is_member j state.set.members ≡ is_member j (prefix table schedule count)
  pub certain : (x : ℕ) → x < m →
      x < cores_where m (λ core. nat_le (core_end scenario schedule (prefix table schedule count) core) (slice_index state.high x))
  pub possible : (x : ℕ) → x < m →
      cores_where m (λ core. nat_lt (max (core_end scenario schedule (prefix table schedule count) core) (last_start schedule (prefix table schedule count))) (slice_index state.low x)) ≤ x
  pub tracked : All (λ e. IsTrue (holds e.1 (finish_of scenario schedule e.0))) state.ends
  pub last : (i : ℕ) → IsTrue (is_member i state.last.members) →
      finish_of scenario schedule i ≡ core_end scenario schedule (prefix table schedule count) (core_of schedule i)
