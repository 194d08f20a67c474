-- The words of `analyse`.
--   analyse_app        the grammar of `analyse`
--   HasAnalyseValues   the values are those of this analysis
use Rattle.std.specs.Prelude.{◌≡◌, [], ◌∷◌, ℕ, Option, Some, codes}
use Rattle.clap.specs.Words.{App, Text}
use Rattle.sag_words.specs.Apps.{Values, app_with, named, place}
use Rattle.sag_words.specs.Numbers.{GivesBudget, GivesCores}

-- analyse JOBS [--prec FILE] [--cores N] [--budget N]
abbrev pub analyse_app : App
analyse_app = app_with (codes "analyse") (place (codes "JOBS") ∷ named (codes "prec") ∷ named (codes "cores") ∷ named (codes "budget") ∷ [])

-- the values are those of this analysis
abbrev pub HasAnalyseValues : Values → Text → Option Text → ℕ → ℕ → Type 0
HasAnalyseValues given jobs prec cores budget = (given (codes "JOBS") ≡ Some jobs) × (given (codes "prec") ≡ prec)
    × GivesCores (given (codes "cores")) cores × GivesBudget (given (codes "budget")) budget
