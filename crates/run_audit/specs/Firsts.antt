-- The rules that are broken as a job starts, and the job that breaks one first.
--     IsCutOff entries j             a job that comes earlier by (start, number) runs on the core of job j as j starts
--     IsOffCores, IsTooEarly         the core of job j is not below m; it starts before it is ready
--     IsFirst entries Bad j          job j is bad, and no bad job comes earlier by (start, number)
--     FindsFirst entries Bad found   the first bad job, if there is one
--     IsAmongFirst order k i               job i has one of the first k places of an order
use Rattle.std.specs.Prelude.{◌≡◌, ℕ, List, ◌≤◌, ◌<◌, length, Option, Some, None}
use Rattle.run_audit.specs.declared.entries.Entry.{Entry}
use Rattle.run_audit.specs.Entries.{core_at, finish_at, ready_at, start_at}
use Rattle.run_audit.specs.Orders.{IsBefore, job_in}

-- job i has one of the first k places
abbrev pub IsAmongFirst : List (ℕ × ℕ) → ℕ → ℕ → Type 0
IsAmongFirst order k i = (p : ℕ) × (p < k) × (p < length order) × (job_in order p ≡ i)

module _ (entries : List Entry) where
  abbrev pub IsOffCores : ℕ → ℕ → Type 0
  IsOffCores m j = m ≤ core_at entries j

  abbrev pub IsTooEarly : ℕ → Type 0
  IsTooEarly j = start_at entries j < ready_at entries j

  pub record IsCutOff (j : ℕ) : Type 0 where
    pub by : ℕ
    pub is_job : by < length entries
    pub earlier : IsBefore (start_at entries by) by (start_at entries j) j
    pub same_core : core_at entries by ≡ core_at entries j
    pub running : start_at entries j < finish_at entries by

  pub record IsFirst (Bad : ℕ → Type 0) (j : ℕ) : Type 0 where
    pub is_job : j < length entries
    pub bad : Bad j
    pub first : (i : ℕ) → i < length entries → IsBefore (start_at entries i) i (start_at entries j) j → ¬ Bad i

  abbrev pub FindsFirst : (ℕ → Type 0) → Option ℕ → Type 0
  FindsFirst Bad None = (j : ℕ) → j < length entries → ¬ Bad j
  FindsFirst Bad (Some j) = IsFirst Bad j
