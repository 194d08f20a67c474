-- Trials of two jobs: what they give each.
use Rattle.std.proofs.Common.{◌≡◌, ℕ, List, [], ◌∷◌, refl}
use Rattle.small_tables.specs.Tables.{blocking_table}
use Rattle.gap_report.specs.Trials.{best_trial, plain_row, plain_trial, worst_trial}

-- all early or late, all cheap or dear
early_cheap : ◌≡◌ {A = List (ℕ × ℕ)} (plain_trial blocking_table 0) ((0, 1) ∷ (0, 2) ∷ [])
unfolding blocking_table plain_row
early_cheap = refl

early_dear : ◌≡◌ {A = List (ℕ × ℕ)} (plain_trial blocking_table 1) ((0, 2) ∷ (0, 3) ∷ [])
unfolding blocking_table plain_row
early_dear = refl

late_cheap : ◌≡◌ {A = List (ℕ × ℕ)} (plain_trial blocking_table 2) ((1, 1) ∷ (0, 2) ∷ [])
unfolding blocking_table plain_row
late_cheap = refl

late_dear : ◌≡◌ {A = List (ℕ × ℕ)} (plain_trial blocking_table 3) ((1, 2) ∷ (0, 3) ∷ [])
unfolding blocking_table plain_row
late_dear = refl

-- the first job's own row is that of the first or the last of these, and the other's that of the third or the second
first_best : ◌≡◌ {A = List (ℕ × ℕ)} (plain_trial blocking_table (best_trial 0)) ((0, 1) ∷ (0, 2) ∷ [])
unfolding blocking_table plain_row
first_best = refl

first_worst : ◌≡◌ {A = List (ℕ × ℕ)} (plain_trial blocking_table (worst_trial 0)) ((1, 2) ∷ (0, 3) ∷ [])
unfolding blocking_table plain_row
first_worst = refl

-- the second job's
second_best : ◌≡◌ {A = List (ℕ × ℕ)} (plain_trial blocking_table (best_trial 1)) ((1, 1) ∷ (0, 2) ∷ [])
unfolding blocking_table plain_row
second_best = refl

second_worst : ◌≡◌ {A = List (ℕ × ℕ)} (plain_trial blocking_table (worst_trial 1)) ((0, 2) ∷ (0, 3) ∷ [])
unfolding blocking_table plain_row
second_worst = refl
