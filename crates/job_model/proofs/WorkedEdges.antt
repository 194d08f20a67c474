-- The edges of precedence rows, worked out: rising, and each once.
use Rattle.std.proofs.Common.{◌≡◌, [], ◌∷◌, lit<, refl}
use Rattle.job_model.proofs.Tables.{table_b}
use Rattle.job_model.specs.Cycles.{HoldsCycle}
use Rattle.job_model.specs.EdgeFaults.{edges_of}
use Rattle.job_model.specs.Table.{predecessors, successors}

rows_rise : edges_of ((3, 0) ∷ (0, 1) ∷ (1, 2) ∷ (0, 1) ∷ (0, 3) ∷ []) ≡ (0, 1) ∷ (0, 3) ∷ (1, 2) ∷ (3, 0) ∷ []
rows_rise = refl

waits_for : predecessors table_b 2 ≡ 0 ∷ []
waits_for = refl

lets_start : successors table_b 0 ≡ 2 ∷ []
lets_start = refl

-- 0 waits for 3, and 3 for 0, by three edges
goes_round : HoldsCycle ((3, 0) ∷ (0, 1) ∷ (1, 3) ∷ [])
goes_round = record { job = 3; further = 2; walk = (0, (0, lit< tt, refl), (1, (1, lit< tt, refl), (3, (2, lit< tt, refl), refl))) }
