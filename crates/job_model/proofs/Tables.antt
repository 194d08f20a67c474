-- Small tables that the proofs of worked rows share.
use Rattle.std.proofs.Common.{ℕ, [], ◌∷◌}
use Rattle.job_model.specs.declared.job_row.Job.{Job}
use Rattle.job_model.specs.Table.{Table}

abbrev pub job : ℕ → ℕ → ℕ → ℕ → ℕ → ℕ → ℕ → ℕ → Job
job task number rmin rmax cmin cmax deadline priority =
    record { task = task; job = number; rmin = rmin; rmax = rmax; cmin = cmin; cmax = cmax; deadline = deadline; priority = priority }

-- two jobs of which the less urgent may block
abbrev pub table_a : Table
table_a = record {
  jobs = job 1 1 0 1 1 2 5 1 ∷ job 2 1 0 0 2 3 9 2 ∷ [];
  edges = [];
}

-- a job with a successor, on two cores
abbrev pub table_b : Table
table_b = record {
  jobs = job 1 1 0 0 2 4 10 1 ∷ job 2 1 0 0 1 1 10 2 ∷ job 3 1 0 0 1 2 6 3 ∷ [];
  edges = (0, 2) ∷ [];
}

-- two states that are neighbours and merge
abbrev pub table_c : Table
table_c = record {
  jobs = job 1 1 0 10 1 1 11 2 ∷ job 2 1 5 5 1 1 6 1 ∷ [];
  edges = [];
}

-- two states of one set that do not merge, on two cores
abbrev pub table_d : Table
table_d = record {
  jobs = job 1 1 0 5 10 10 20 1 ∷ job 2 1 0 0 3 3 20 2 ∷ job 3 1 0 0 4 4 20 3 ∷ [];
  edges = [];
}

-- two jobs that differ in their job ID alone
abbrev pub table_tie : Table
table_tie = record {
  jobs = job 18446744073709551615 18446744073709551615 0 0 1 1 18446744073709551615 7 ∷ job 18446744073709551615 18446744073709551614 0 0 1 1 18446744073709551615 7 ∷ [];
  edges = [];
}
