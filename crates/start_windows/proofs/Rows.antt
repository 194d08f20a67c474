-- Worked windows, computed.
use Rattle.std.proofs.Common.{◌≡◌, ℕ, [], ◌∷◌, refl, Option, Some, None}
use Rattle.sag_time.specs.Interval.{Interval}
use Rattle.job_model.specs.Table.{Table}
use Rattle.job_model.proofs.Tables.{job, table_a, table_b, table_c, table_d}
use Rattle.start_windows.specs.declared.StartWindow.{StartWindow}
use Rattle.start_windows.specs.Window.{start_window, overtaken_from}

abbrev from_to : ℕ → ℕ → Interval
from_to lo hi = record { lo = lo; hi = hi }

abbrev window : ℕ → ℕ → Option StartWindow
window est lst = Some (record { est = est; lst = lst })

-- A job waits for the end of another. At the root the less urgent one has a limit that is not after its earliest start.
b_root_0 : start_window table_b [] [] (from_to 0 0) 0 ≡ window 0 0
b_root_0 = refl

b_root_1 : start_window table_b [] [] (from_to 0 0) 1 ≡ None
b_root_1 = refl

b_limit_1 : overtaken_from table_b [] [] 1 ≡ Some 0
b_limit_1 = refl

b_root_2 : start_window table_b [] [] (from_to 0 0) 2 ≡ None
b_root_2 = refl

-- on the second of two cores
b_last : start_window table_b (0 ∷ 1 ∷ []) ((0, from_to 2 4) ∷ []) (from_to 1 1) 2 ≡ window 2 4
b_last = refl

-- behind the less urgent job
a_behind : start_window table_a (1 ∷ []) [] (from_to 2 3) 0 ≡ window 2 3
a_behind = refl

-- up to the last moment before the more urgent job certainly is there
c_root_0 : start_window table_c [] [] (from_to 0 0) 0 ≡ window 0 4
c_root_0 = refl

c_root_1 : start_window table_c [] [] (from_to 0 0) 1 ≡ window 5 5
c_root_1 = refl

-- the least limit counts
d_root_1 : start_window table_d [] [] (from_to 0 0) 1 ≡ window 0 0
d_root_1 = refl

d_root_2 : start_window table_d [] [] (from_to 0 0) 2 ≡ None
d_root_2 = refl

-- job 1 waits for job 0
abbrev table_waiting : Table
table_waiting = record {
  jobs = job 1 1 0 0 2 4 20 1 ∷ job 2 1 0 0 1 1 20 2 ∷ job 3 1 0 0 1 1 20 3 ∷ [];
  edges = (0, 1) ∷ [];
}

-- The limit counts the predecessors of the more urgent job: it is not there before job 0 has finished.
waiting_2 : start_window table_waiting (0 ∷ []) ((0, from_to 2 4) ∷ []) (from_to 0 0) 2 ≡ window 0 0
waiting_2 = refl

-- jobs 1 and 2 wait for job 0
abbrev table_sharing : Table
table_sharing = record { jobs = table_waiting.jobs; edges = (0, 1) ∷ (0, 2) ∷ [] }

-- The limit does not count shared predecessors: once job 2 is there, so is the more urgent job 1.
sharing_2 : start_window table_sharing (0 ∷ []) ((0, from_to 2 4) ∷ []) (from_to 2 4) 2 ≡ None
sharing_2 = refl

sharing_1 : start_window table_sharing (0 ∷ []) ((0, from_to 2 4) ∷ []) (from_to 2 4) 1 ≡ window 2 4
sharing_1 = refl
