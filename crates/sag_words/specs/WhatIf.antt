-- The words of `whatif`.
--   whatif_app        the grammar of `whatif`
--   HasWhatIfValues   the values are those of this analysis after edits
use Rattle.std.specs.Prelude.{◌≡◌, [], ◌∷◌, ℕ, Option, Some, codes}
use Rattle.clap.specs.Words.{App, Text}
use Rattle.sag_words.specs.Apps.{Values, app_with, named, place}
use Rattle.sag_words.specs.Numbers.{GivesBudget, GivesCores}

-- whatif JOBS EDITS [--prec FILE] [--cores N] [--budget N]
abbrev pub whatif_app : App
whatif_app = app_with (codes "whatif") (place (codes "JOBS") ∷ place (codes "EDITS") ∷ named (codes "prec") ∷ named (codes "cores") ∷ named (codes "budget") ∷ [])

-- the values are those of this analysis after edits
abbrev pub HasWhatIfValues : Values → Text → Text → Option Text → ℕ → ℕ → Type 0
HasWhatIfValues given jobs edits prec cores budget = (given (codes "JOBS") ≡ Some jobs) × (given (codes "EDITS") ≡ Some edits)
    × (given (codes "prec") ≡ prec) × GivesCores (given (codes "cores")) cores × GivesBudget (given (codes "budget")) budget
