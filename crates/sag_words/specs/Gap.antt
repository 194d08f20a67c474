-- The words of `gap`.
--   gap_app        the grammar of `gap`
--   HasGapValues   the values are those of this comparison, or of this trial
use Rattle.std.specs.Prelude.{◌≡◌, [], ◌∷◌, ℕ, Option, Some, codes}
use Rattle.clap.specs.Words.{App, Text}
use Rattle.sag_words.specs.Apps.{Values, app_with, named, place}
use Rattle.sag_words.specs.Numbers.{GivesBudget, GivesCores, GivesTrial}

-- gap JOBS [--prec FILE] [--cores N] [--budget N] [--trial K]
abbrev pub gap_app : App
gap_app = app_with (codes "gap") (place (codes "JOBS") ∷ named (codes "prec") ∷ named (codes "cores") ∷ named (codes "budget") ∷ named (codes "trial") ∷ [])

-- the values are those of this comparison, or of this trial
abbrev pub HasGapValues : Values → Text → Option Text → ℕ → ℕ → Option ℕ → Type 0
HasGapValues given jobs prec cores budget trial = (given (codes "JOBS") ≡ Some jobs) × (given (codes "prec") ≡ prec)
    × GivesCores (given (codes "cores")) cores × GivesBudget (given (codes "budget")) budget × GivesTrial (given (codes "trial")) trial
