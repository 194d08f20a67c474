-- Worked schedules, computed.
use Rattle.std.proofs.Common.{◌≡◌, ℕ, false, List, [], ◌∷◌, refl}
use Rattle.job_model.proofs.Tables.{table_a, table_b, table_tie}
use Rattle.run_meaning.specs.declared.places.Place.{Place}
use Rattle.run_meaning.specs.Legal.{Legal}
use Rattle.run_meaning.specs.Order.{dispatch_order}
use Rattle.run_meaning.proofs.LegalTest.{legal_test, Legal-from_test}

abbrev pub place : ℕ → ℕ → Place
place start core = record { start = start; core = core }

abbrev scenario_a : List (ℕ × ℕ)
scenario_a = (1, 2) ∷ (0, 3) ∷ []

pub a_legal : Legal table_a 1 ((1, 2) ∷ (0, 3) ∷ []) (place 3 0 ∷ place 0 0 ∷ [])
a_legal = Legal-from_test _ _ _ _ refl

a_order : dispatch_order table_a (place 3 0 ∷ place 0 0 ∷ []) ≡ 1 ∷ 0 ∷ []
a_order = refl

pub b_legal : Legal table_b 2 ((0, 4) ∷ (0, 1) ∷ (0, 2) ∷ []) (place 0 0 ∷ place 0 1 ∷ place 4 0 ∷ [])
b_legal = Legal-from_test _ _ _ _ refl

-- the other of the idle cores will do
b_other_core : Legal table_b 2 ((0, 4) ∷ (0, 1) ∷ (0, 2) ∷ []) (place 0 0 ∷ place 0 1 ∷ place 4 1 ∷ [])
b_other_core = Legal-from_test _ _ _ _ refl

b_order : dispatch_order table_b (place 0 0 ∷ place 0 1 ∷ place 4 0 ∷ []) ≡ 0 ∷ 1 ∷ 2 ∷ []
b_order = refl

tie_legal : Legal table_tie 1 ((0, 1) ∷ (0, 1) ∷ []) (place 1 0 ∷ place 0 0 ∷ [])
tie_legal = Legal-from_test _ _ _ _ refl

tie_wrong : legal_test table_tie 1 ((0, 1) ∷ (0, 1) ∷ []) (place 0 0 ∷ place 1 0 ∷ []) ≡ false
tie_wrong = refl

-- a core stays idle while a job is ready
a_idle : legal_test table_a 1 ((1, 2) ∷ (0, 3) ∷ []) (place 1 0 ∷ place 3 0 ∷ []) ≡ false
a_idle = refl

a_overlap : legal_test table_a 1 ((1, 2) ∷ (0, 3) ∷ []) (place 2 0 ∷ place 0 0 ∷ []) ≡ false
a_overlap = refl

a_early : legal_test table_a 1 ((1, 2) ∷ (0, 3) ∷ []) (place 0 0 ∷ place 0 0 ∷ []) ≡ false
a_early = refl
