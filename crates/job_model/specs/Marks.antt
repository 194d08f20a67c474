-- A walk back along edges, from a job to those that it waits for, that looks for a cycle.
--     mark_at marks j                     the mark of job j
--     unseen marks                        how many jobs are unseen
--     visit_at path p                     the job at place p of the path
--     AreFinished edges marks job count   the first so many predecessors of the job are finished
--     AreGrounded edges marks             walks to finished jobs are no longer than some number of steps
--     IsPath edges marks path             the jobs on the path, each a predecessor of the one before it there
--     Finds edges marks job found         what is behind a job
--     HasGoneBack edges old new job       what a walk back from the job leaves, where it comes to no job twice
use Rattle.std.specs.Prelude.{◌≡◌, ◌≢◌, ℕ, ◌+◌, ◌<◌, ◌≤◌, Bool, true, false, List, [], Contains, count_by, length, slice_index_or}
use Rattle.job_model.specs.declared.walk_back.Behind.{Behind}
use Rattle.job_model.specs.declared.walk_back.Behind.TheVariants as behind
use Rattle.job_model.specs.declared.walk_back.Mark.{Mark}
use Rattle.job_model.specs.declared.walk_back.Mark.TheVariants as mark
use Rattle.job_model.specs.declared.walk_back.Visit.{Visit}
use Rattle.job_model.specs.Neighbours.{sources}
use Rattle.job_model.specs.Table.{Walk}

-- the mark of job j
abbrev pub mark_at : List Mark → ℕ → Mark
mark_at marks j = slice_index_or marks j mark.Unseen

abbrev pub is_unseen : Mark → Bool
is_unseen mark.Unseen = true
is_unseen mark.OnPath = false
is_unseen mark.Finished = false

-- how many jobs are unseen
abbrev pub unseen : List Mark → ℕ
unseen marks = count_by is_unseen marks

-- read only past the end of a path
abbrev pub no_visit : Visit
no_visit = record { job = 0; passed = 0 }

-- the job at place p of the path
abbrev pub visit_at : List Visit → ℕ → Visit
visit_at path p = slice_index_or path p no_visit

-- the first so many predecessors of the job are finished
abbrev pub AreFinished : List (ℕ × ℕ) → List Mark → ℕ → ℕ → Type 0
AreFinished edges marks job count = (k : ℕ) → k < count → mark_at marks (slice_index_or (sources edges job) k 0) ≡ mark.Finished

-- no walk to a finished job has more than some number of steps
pub record AreGrounded (edges : List (ℕ × ℕ)) (marks : List Mark) : Type 0 where
  pub most : ℕ
  pub bound : (j : ℕ) → mark_at marks j ≡ mark.Finished → (i n : ℕ) → Walk edges i j n → n ≤ most

-- The path has the jobs that are marked so, each once, and each is a predecessor of the one before it there.
pub record IsPath (edges : List (ℕ × ℕ)) (marks : List Mark) (path : List Visit) : Type 0 where
  pub own : (p : ℕ) → p < length path → mark_at marks (visit_at path p).job ≡ mark.OnPath
  pub all : (i : ℕ) → mark_at marks i ≡ mark.OnPath → (p : ℕ) × (p < length path) × ((visit_at path p).job ≡ i)
  pub once : (p q : ℕ) → p < q → q < length path → (visit_at path p).job ≢ (visit_at path q).job
  pub passed : (p : ℕ) → p < length path → AreFinished edges marks (visit_at path p).job (visit_at path p).passed
  pub linked : (p : ℕ) → p + 1 < length path → Contains edges ((visit_at path (p + 1)).job, (visit_at path p).job)
  pub grounded : AreGrounded edges marks

-- what is behind a job: its predecessors are finished; or one is on the path; or one is unseen, and so many before it are finished
abbrev pub Finds : List (ℕ × ℕ) → List Mark → ℕ → Behind → Type 0
Finds edges marks job behind.Finished = AreFinished edges marks job (length (sources edges job))
Finds edges marks job behind.OnPath = (before : ℕ) × Contains edges (before, job) × (mark_at marks before ≡ mark.OnPath)
Finds edges marks job (behind.Unseen passed before) = AreFinished edges marks job passed × Contains edges (before, job) × (mark_at marks before ≡ mark.Unseen)

-- What a walk back from the job leaves, where it comes to no job twice.
pub record HasGoneBack (edges : List (ℕ × ℕ)) (old new : List Mark) (job : ℕ) : Type 0 where
  pub job_finished : mark_at new job ≡ mark.Finished
  pub finished_kept : (i : ℕ) → mark_at old i ≡ mark.Finished → mark_at new i ≡ mark.Finished
  pub clear : IsPath edges new []
