-- The jobs at the other ends of a job's edges, and lists of them by job.
--     sources edges j, targets edges j       where the edges to j come from, where those from j lead
--     list_at lists j                        the list at place j, or none past the end
--     JoinJobs count edges                   all edges join jobs below that number
--     put_at lists j x                       the lists with one number more at place j
--     AreNeighbours edges before after       the sources and the targets, by job
use Rattle.std.specs.Prelude.{◌≡◌, ℕ, ◌<◌, List, [], ◌∷◌, ◌++◌, ◌==◌, All, filter, map, slice_index_or, slice_set}

-- all edges join jobs below that number
abbrev pub JoinJobs : ℕ → List (ℕ × ℕ) → Type 0
JoinJobs count edges = All (λ e. (e.0 < count) × (e.1 < count)) edges

-- the jobs from which an edge leads to j
abbrev pub sources : List (ℕ × ℕ) → ℕ → List ℕ
sources edges j = map (λ e. e.0) (filter (λ e. e.1 == j) edges)

-- the jobs to which an edge leads from j
abbrev pub targets : List (ℕ × ℕ) → ℕ → List ℕ
targets edges j = map (λ e. e.1) (filter (λ e. e.0 == j) edges)

-- the list at place j, or an empty one past the end
abbrev pub list_at : List (List ℕ) → ℕ → List ℕ
list_at lists j = slice_index_or lists j []

-- the lists with a number more at the end of that at place j
abbrev pub put_at : List (List ℕ) → ℕ → ℕ → List (List ℕ)
put_at lists j x = slice_set lists j (list_at lists j ++ x ∷ [])

-- by job, the sources and the targets of its edges
pub record AreNeighbours (edges : List (ℕ × ℕ)) (before after : List (List ℕ)) : Type 0 where
  pub from : (j : ℕ) → list_at before j ≡ sources edges j
  pub to : (j : ℕ) → list_at after j ≡ targets edges j
