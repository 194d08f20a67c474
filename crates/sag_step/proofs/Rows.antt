-- Worked states of small tables, computed.
use Rattle.std.proofs.Common.{◌≡◌, ℕ, List, [], ◌∷◌, refl, true, false}
use Rattle.std.specs.Prelude.{map}
use Rattle.job_model.proofs.Tables.{table_b, table_c, table_d}
use Rattle.sag_time.specs.Interval.{Interval}
use Rattle.sag_step.specs.State.{SystemState, root}
use Rattle.sag_step.specs.Shape.{has_shape}
use Rattle.sag_step.specs.Next.{next}
use Rattle.sag_step.specs.Widen.{widens}
use Rattle.sag_step.specs.Offers.{offers}
use Rattle.sag_step.proofs.WorkedLevels.{level}

-- what a state says besides its set
abbrev Numbers : Type 0
Numbers = List ℕ × List ℕ × List (ℕ × Interval)

abbrev numbers : SystemState → Numbers
numbers state = (state.low, state.high, state.ends)

-- the other core stays free from 0 on, possibly and certainly
d_first : numbers (next table_d (root table_d 2) 0 (record { est = 0; lst = 0 })) ≡ (0 ∷ 10 ∷ [], 0 ∷ 10 ∷ [], [])
d_first = refl

-- what two edges lead to, before they merge
c_offers : map (λ o. numbers o.next) (offers table_c (level table_c 1 1)) ≡ (6 ∷ [], 6 ∷ [], []) ∷ (7 ∷ [], 11 ∷ [], []) ∷ []
c_offers = refl

-- the tests of states answer for them
b_shapes : map (has_shape table_b 2) (root table_b 2 ∷ level table_b 2 1) ≡ true ∷ true ∷ []
b_shapes = refl

b_one_core : has_shape table_b 1 (root table_b 2) ≡ false
b_one_core = refl

c_widens : map (λ s. map (λ o. widens s o.next) (offers table_c (level table_c 1 1))) (level table_c 1 2) ≡ (true ∷ true ∷ []) ∷ []
c_widens = refl
