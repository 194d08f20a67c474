-- Job tables.
--     Table                      the jobs, and the precedence edges (predecessor, successor) between their numbers
--     table_of jobs              the table of these jobs, without edges
--     job_at table j             job number j
--     id_of a, HaveOneId a b     what names a job: its task and its number there
--     predecessors table j       the jobs that must finish before j starts, in rising order where the edges rise
--     successors table j         the jobs that wait for j
--     edge_cmp                   the order of edges: by predecessor, then by successor
--     IsTable table              what a table of the program keeps
use Rattle.std.specs.Prelude.{◌≡◌, ℕ, [], zero, suc, Bool, List, ◌≤◌, ◌<◌, length, slice_index_or, All, AllPairs, Contains}
use Rattle.std.specs.declared.cmp.Ordering.{Ordering}
use Rattle.std.specs.Ordering.{nat_cmp, then_cmp, on}
use Rattle.std.specs.List.Sorted.{IsStrictlySortedBy}
use Rattle.job_model.specs.declared.job_row.Job.{Job}
use Rattle.job_model.specs.declared.limits.TheConstants.{MOST_JOBS, MOST_EDGES, MOST_ARRIVAL, MOST_COST}
use Rattle.job_model.specs.Neighbours.{sources, targets}
use Rattle.job_model.specs.Urgency.{is_more_urgent}

-- The jobs, and the precedence edges between their numbers: (predecessor, successor).
pub record Table : Type 0 where
  pub jobs : List Job
  pub edges : List (ℕ × ℕ)

-- the table of these jobs, without edges
abbrev pub table_of : List Job → Table
table_of jobs = record { jobs = jobs; edges = [] }

-- read only past the end of a list of jobs
abbrev pub no_job : Job
no_job = record { task = 0; job = 0; rmin = 0; rmax = 0; cmin = 0; cmax = 0; deadline = 0; priority = 0 }

-- job number j
abbrev pub job_at : Table → ℕ → Job
job_at table j = slice_index_or table.jobs j no_job

-- the jobs that must finish before j starts
abbrev pub predecessors : Table → ℕ → List ℕ
predecessors table j = sources table.edges j

-- the jobs that wait for j
abbrev pub successors : Table → ℕ → List ℕ
successors table j = targets table.edges j

-- whether job number i is more urgent than job number j
abbrev pub has_urgency_over : Table → ℕ → ℕ → Bool
has_urgency_over table i j = is_more_urgent (job_at table i) (job_at table j)

-- a walk along n edges
abbrev pub Walk : List (ℕ × ℕ) → ℕ → ℕ → ℕ → Type 0
Walk edges a b zero = a ≡ b
Walk edges a b (suc n) = (c : ℕ) × Contains edges (a, c) × Walk edges c b n

-- what a job keeps: its intervals are in order and within the limits, and it costs something
pub record IsJob (a : Job) : Type 0 where
  pub releases : a.rmin ≤ a.rmax
  pub arrival_limit : a.rmax ≤ MOST_ARRIVAL
  pub costs_something : 1 ≤ a.cmin
  pub costs : a.cmin ≤ a.cmax
  pub cost_limit : a.cmax ≤ MOST_COST

-- the task and the job ID
abbrev pub id_of : Job → ℕ × ℕ
id_of a = (a.task, a.job)

-- both IDs are equal
abbrev pub HaveOneId : Job → Job → Type 0
HaveOneId a b = (a.task ≡ b.task) × (a.job ≡ b.job)

-- by predecessor, then by successor
abbrev pub edge_cmp : ℕ × ℕ → ℕ × ℕ → Ordering
edge_cmp = then_cmp (on (λ e. e.0) nat_cmp) (on (λ e. e.1) nat_cmp)

-- What a table keeps: few jobs, no two of the same IDs, and few edges, which rise, name jobs and close no cycle.
pub record IsTable (table : Table) : Type 0 where
  pub few_jobs : length table.jobs ≤ MOST_JOBS
  pub jobs : All IsJob table.jobs
  pub ids_differ : AllPairs (λ a b. ¬ HaveOneId a b) table.jobs
  pub few_edges : length table.edges ≤ MOST_EDGES
  pub edges_rise : IsStrictlySortedBy edge_cmp table.edges
  pub edges_in_range : All (λ e. (e.0 < length table.jobs) × (e.1 < length table.jobs)) table.edges
  pub no_cycle : (j n : ℕ) → ¬ Walk table.edges j j (suc n)
