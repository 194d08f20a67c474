-- Whole graphs of small tables, level by level, computed from the root.
use Rattle.std.proofs.Common.{◌≡◌, ℕ, zero, suc, List, [], ◌∷◌, ◌++◌, length, map, filter, refl}
use Rattle.std.specs.Prelude.{◌==◌, unwrap_or}
use Rattle.std.specs.List.{list_any}
use Rattle.job_model.proofs.Tables.{job, table_a, table_b, table_c, table_d}
use Rattle.lists.specs.Numbers.{greatest, least}
use Rattle.lists.specs.Zipped.{zip_with}
use Rattle.job_model.specs.Table.{Table, table_of}
use Rattle.sag_time.specs.Interval.{Interval}
use Rattle.sag_step.specs.State.{SystemState, root}
use Rattle.sag_step.specs.Next.{finish_interval}
use Rattle.sag_step.specs.Group.{group, places_of}
use Rattle.sag_step.specs.Offers.{Offer, offers}

-- the states once k jobs have started
abbrev pub level : Table → ℕ → ℕ → List SystemState
level table m zero = root table m ∷ []
level table m (suc k) = group (offers table (level table m k))

-- an edge to the next level: from which state, of which job, its window, and to which state
abbrev Edge : Type 0
Edge = ℕ × ℕ × ℕ × ℕ × ℕ

abbrev edge : Offer → ℕ → Edge
edge o to = (o.from, o.job, o.window.est, o.window.lst, to)

-- to the state that takes the offer, when it comes
abbrev edges : Table → ℕ → ℕ → List Edge
edges table m k = zip_with edge (offers table (level table m k)) (places_of [] (offers table (level table m k)))

abbrev span : ℕ → ℕ → Interval
span lo hi = record { lo = lo; hi = hi }

-- the state of a table of so many jobs
abbrev state : ℕ → List ℕ → List ℕ → List ℕ → List (ℕ × Interval) → List ℕ → SystemState
state size members low high ends last = record {
  set = record { size = size; members = members };
  low = low;
  high = high;
  ends = ends;
  last = record { size = size; members = last };
}

-- the offers of so many levels, of which the first is given
abbrev offers_of_levels : Table → ℕ → List SystemState → List Offer
offers_of_levels table zero level = []
offers_of_levels table (suc n) level = offers table level ++ offers_of_levels table n (group (offers table level))

-- when job j may finish, by each edge of the graph
abbrev finishes : Table → ℕ → ℕ → List Interval
finishes table m j = map (λ o. finish_interval table j o.window) (filter (λ o. o.job == j) (offers_of_levels table (length table.jobs) (root table m ∷ [])))

-- from when on it may finish, and until when, by all edges
abbrev bounds : Table → ℕ → ℕ → Interval
bounds table m j = span (unwrap_or (least (map (λ s. s.lo) (finishes table m j))) 0) (greatest (map (λ s. s.hi) (finishes table m j)))

-- ---- one core, two jobs of which each may be the first

a_1 : level table_a 1 1 ≡ state 2 (0 ∷ []) (1 ∷ []) (2 ∷ []) [] [] ∷ state 2 (1 ∷ []) (2 ∷ []) (3 ∷ []) [] [] ∷ []
a_1 = refl

a_2 : level table_a 1 2 ≡ state 2 (0 ∷ 1 ∷ []) (3 ∷ []) (5 ∷ []) [] [] ∷ []
a_2 = refl

-- ---- two cores: the first job is tracked until its successor has started

abbrev first_end : List (ℕ × Interval)
first_end = (0, span 2 4) ∷ []

b_1 : level table_b 2 1 ≡ state 3 (0 ∷ []) (0 ∷ 2 ∷ []) (0 ∷ 4 ∷ []) first_end (0 ∷ []) ∷ []
b_1 = refl

b_2 : level table_b 2 2 ≡ state 3 (0 ∷ 1 ∷ []) (1 ∷ 2 ∷ []) (1 ∷ 4 ∷ []) first_end (0 ∷ []) ∷ []
b_2 = refl

b_3 : level table_b 2 3 ≡ state 3 (0 ∷ 1 ∷ 2 ∷ []) (2 ∷ 3 ∷ []) (4 ∷ 6 ∷ []) [] [] ∷ []
b_3 = refl

b_edges : map (edges table_b 2) (0 ∷ 1 ∷ 2 ∷ []) ≡ ((0, 0, 0, 0, 0) ∷ []) ∷ ((0, 1, 0, 0, 0) ∷ []) ∷ ((0, 2, 2, 4, 0) ∷ []) ∷ []
b_edges = refl

b_finish : map (bounds table_b 2) (0 ∷ 1 ∷ 2 ∷ []) ≡ span 2 4 ∷ span 1 1 ∷ span 3 6 ∷ []
b_finish = refl

-- ---- one core: two states that are neighbours become one

c_1 : level table_c 1 1 ≡ state 2 (0 ∷ []) (1 ∷ []) (5 ∷ []) [] [] ∷ state 2 (1 ∷ []) (6 ∷ []) (6 ∷ []) [] [] ∷ []
c_1 = refl

c_2 : level table_c 1 2 ≡ state 2 (0 ∷ 1 ∷ []) (6 ∷ []) (11 ∷ []) [] [] ∷ []
c_2 = refl

c_edges : map (edges table_c 1) (0 ∷ 1 ∷ []) ≡ ((0, 0, 0, 4, 0) ∷ (0, 1, 5, 5, 1) ∷ []) ∷ ((0, 1, 5, 5, 0) ∷ (1, 0, 6, 10, 0) ∷ []) ∷ []
c_edges = refl

c_finish : map (bounds table_c 1) (0 ∷ 1 ∷ []) ≡ span 1 11 ∷ span 6 6 ∷ []
c_finish = refl

-- ---- two cores: an offer that equals a state, and in the end two states of one set between which there is a gap

d_1 : level table_d 2 1 ≡ state 3 (0 ∷ []) (0 ∷ 10 ∷ []) (0 ∷ 10 ∷ []) [] [] ∷ state 3 (1 ∷ []) (0 ∷ 3 ∷ []) (0 ∷ 3 ∷ []) [] [] ∷ []
d_1 = refl

d_2 : level table_d 2 2 ≡ state 3 (0 ∷ 1 ∷ []) (3 ∷ 10 ∷ []) (3 ∷ 10 ∷ []) [] [] ∷ state 3 (1 ∷ 2 ∷ []) (3 ∷ 4 ∷ []) (3 ∷ 4 ∷ []) [] [] ∷ []
d_2 = refl

d_3 : level table_d 2 3 ≡ state 3 (0 ∷ 1 ∷ 2 ∷ []) (7 ∷ 10 ∷ []) (7 ∷ 10 ∷ []) [] [] ∷ state 3 (0 ∷ 1 ∷ 2 ∷ []) (4 ∷ 13 ∷ []) (4 ∷ 15 ∷ []) [] [] ∷ []
d_3 = refl

d_edges : map (edges table_d 2) (0 ∷ 1 ∷ 2 ∷ [])
    ≡ ((0, 0, 0, 0, 0) ∷ (0, 1, 0, 0, 1) ∷ []) ∷ ((0, 1, 0, 0, 0) ∷ (1, 0, 0, 0, 0) ∷ (1, 2, 0, 0, 1) ∷ []) ∷ ((0, 2, 3, 3, 0) ∷ (1, 0, 3, 5, 1) ∷ []) ∷ []
d_edges = refl

d_finish : map (bounds table_d 2) (0 ∷ 1 ∷ 2 ∷ []) ≡ span 10 15 ∷ span 3 3 ∷ span 4 7 ∷ []
d_finish = refl

-- ---- job 1 waits for job 0: job 2 starts on the second core while job 0 runs

abbrev waiting : Table
waiting = record {
  jobs = job 1 1 0 0 2 4 20 1 ∷ job 2 1 0 0 1 1 20 2 ∷ job 3 1 0 0 1 1 20 3 ∷ [];
  edges = (0, 1) ∷ [];
}

waiting_1 : level waiting 2 1 ≡ state 3 (0 ∷ []) (0 ∷ 2 ∷ []) (0 ∷ 4 ∷ []) first_end (0 ∷ []) ∷ []
waiting_1 = refl

waiting_2 : level waiting 2 2 ≡ state 3 (0 ∷ 2 ∷ []) (1 ∷ 2 ∷ []) (1 ∷ 4 ∷ []) first_end (0 ∷ []) ∷ []
waiting_2 = refl

-- ---- jobs 1 and 2 wait for job 0: on one core there is one order, and job 2 finishes from 4 to 6

abbrev sharing : Table
sharing = record { jobs = waiting.jobs; edges = (0, 1) ∷ (0, 2) ∷ [] }

sharing_1 : level sharing 1 1 ≡ state 3 (0 ∷ []) (2 ∷ []) (4 ∷ []) first_end (0 ∷ []) ∷ []
sharing_1 = refl

sharing_2 : level sharing 1 2 ≡ state 3 (0 ∷ 1 ∷ []) (3 ∷ []) (5 ∷ []) first_end [] ∷ []
sharing_2 = refl

sharing_3 : level sharing 1 3 ≡ state 3 (0 ∷ 1 ∷ 2 ∷ []) (4 ∷ []) (6 ∷ []) [] [] ∷ []
sharing_3 = refl

sharing_finish : bounds sharing 1 2 ≡ span 4 6
sharing_finish = refl

-- ---- job 0 may come after job 2: its end is widened, and dropped once its successor has started

abbrev late : Table
late = record {
  jobs = job 1 1 0 1 2 4 20 1 ∷ job 2 1 0 0 1 1 20 2 ∷ job 3 1 0 0 1 1 20 3 ∷ [];
  edges = (0, 1) ∷ [];
}

late_offers : map (λ o. o.next) (offers late (level late 2 1))
    ≡ state 3 (0 ∷ 2 ∷ []) (1 ∷ 2 ∷ []) (1 ∷ 4 ∷ []) first_end (0 ∷ []) ∷ state 3 (0 ∷ 2 ∷ []) (1 ∷ 2 ∷ []) (1 ∷ 5 ∷ []) ((0, span 2 5) ∷ []) (0 ∷ []) ∷ []
late_offers = refl

late_merged : level late 2 2 ≡ state 3 (0 ∷ 2 ∷ []) (1 ∷ 2 ∷ []) (1 ∷ 5 ∷ []) ((0, span 2 5) ∷ []) (0 ∷ []) ∷ []
late_merged = refl

late_3 : level late 2 3 ≡ state 3 (0 ∷ 1 ∷ 2 ∷ []) (2 ∷ 3 ∷ []) (5 ∷ 6 ∷ []) [] [] ∷ []
late_3 = refl

-- ---- five jobs on one core: states of one set between which there is a gap stay apart

abbrev five : Table
five = table_of (job 1 1 0 5 2 2 20 0 ∷ job 2 1 3 8 2 2 20 0 ∷ job 3 1 3 5 3 7 20 1 ∷ job 4 1 3 4 2 2 20 3 ∷ job 5 1 2 2 2 2 20 0 ∷ [])

-- Merged over the gap, they would let job 1 finish at 16.
five_finish : bounds five 1 1 ≡ span 5 15
five_finish = refl

-- ---- two predecessors that are last on their cores: both cores are free once their successor starts

abbrev joining : Table
joining = record {
  jobs = job 1 1 0 0 2 10 30 2 ∷ job 2 1 0 0 2 6 30 3 ∷ job 3 1 0 0 1 1 30 4 ∷ job 4 1 5 5 1 1 30 1 ∷ [];
  edges = (0, 2) ∷ (1, 2) ∷ [];
}

joining_2 : level joining 2 2 ≡ state 4 (0 ∷ 1 ∷ []) (2 ∷ 2 ∷ []) (6 ∷ 10 ∷ []) ((0, span 2 10) ∷ (1, span 2 6) ∷ []) (0 ∷ 1 ∷ []) ∷ []
joining_2 = refl

joining_3 : level joining 2 3
    ≡ state 4 (0 ∷ 1 ∷ 2 ∷ []) (2 ∷ 3 ∷ []) (4 ∷ 5 ∷ []) [] []
    ∷ state 4 (0 ∷ 1 ∷ 3 ∷ []) (5 ∷ 6 ∷ []) (7 ∷ 10 ∷ []) ((0, span 2 10) ∷ (1, span 2 6) ∷ []) []
    ∷ []
joining_3 = refl

joining_4 : level joining 2 4 ≡ state 4 (0 ∷ 1 ∷ 2 ∷ 3 ∷ []) (5 ∷ 6 ∷ []) (10 ∷ 11 ∷ []) [] [] ∷ []
joining_4 = refl

joining_edges : map (edges joining 2) (2 ∷ 3 ∷ []) ≡ ((0, 2, 2, 4, 0) ∷ (0, 3, 5, 6, 1) ∷ []) ∷ ((0, 3, 5, 5, 0) ∷ (1, 2, 5, 10, 0) ∷ []) ∷ []
joining_edges = refl

-- ---- a job whose earliest finish is the latest start of the next does not stay last

abbrev leaving : Table
leaving = record {
  jobs = job 1 1 0 0 2 2 20 2 ∷ job 2 1 2 2 4 4 20 1 ∷ job 3 1 0 0 1 1 20 3 ∷ [];
  edges = (0, 2) ∷ [];
}

leaving_1 : level leaving 2 1 ≡ state 3 (0 ∷ []) (0 ∷ 2 ∷ []) (0 ∷ 2 ∷ []) ((0, span 2 2) ∷ []) (0 ∷ []) ∷ []
leaving_1 = refl

leaving_2 : level leaving 2 2 ≡ state 3 (0 ∷ 1 ∷ []) (2 ∷ 6 ∷ []) (2 ∷ 6 ∷ []) ((0, span 2 2) ∷ []) [] ∷ []
leaving_2 = refl

leaving_3 : level leaving 2 3 ≡ state 3 (0 ∷ 1 ∷ 2 ∷ []) (3 ∷ 6 ∷ []) (3 ∷ 6 ∷ []) [] [] ∷ []
leaving_3 = refl

-- ---- only so many cores are capped as have such predecessors

abbrev capping : Table
capping = record {
  jobs = job 1 1 0 0 3 3 20 1 ∷ job 2 1 0 0 3 7 20 2 ∷ job 3 1 0 0 1 1 20 3 ∷ [];
  edges = (0, 2) ∷ [];
}

abbrev cores : SystemState → List ℕ × List ℕ
cores s = (s.low, s.high)

capping_3 : map cores (level capping 2 3) ≡ (3 ∷ 4 ∷ [], 4 ∷ 7 ∷ []) ∷ []
capping_3 = refl

-- ---- in a merged state the capped moment is not before the possible one

abbrev merging : Table
merging = record {
  jobs = job 1 1 0 1 3 3 20 0 ∷ job 2 1 0 0 3 3 20 1 ∷ job 3 1 0 0 1 1 20 0 ∷ job 4 1 0 0 1 1 20 0 ∷ job 5 1 0 0 1 1 20 1 ∷ [];
  edges = (0, 3) ∷ (1, 3) ∷ [];
}

merging_4 : map cores (filter (λ s. list_any (λ j. j == 3) s.set.members) (level merging 2 4)) ≡ (4 ∷ 4 ∷ [], 4 ∷ 4 ∷ []) ∷ []
merging_4 = refl
