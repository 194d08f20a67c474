-- The words of `check`.
--   check_app        the grammar of `check`
--   HasCheckValues   the values are those of this check
use Rattle.std.specs.Prelude.{◌≡◌, [], ◌∷◌, ℕ, Option, Some, codes}
use Rattle.clap.specs.Words.{App, Text}
use Rattle.sag_words.specs.Apps.{Values, app_with, named, place}
use Rattle.sag_words.specs.Numbers.{GivesCores}

-- check JOBS CERT [--prec FILE] [--cores N]
abbrev pub check_app : App
check_app = app_with (codes "check") (place (codes "JOBS") ∷ place (codes "CERT") ∷ named (codes "prec") ∷ named (codes "cores") ∷ [])

-- the values are those of this check
abbrev pub HasCheckValues : Values → Text → Text → Option Text → ℕ → Type 0
HasCheckValues given jobs cert prec cores = (given (codes "JOBS") ≡ Some jobs) × (given (codes "CERT") ≡ Some cert)
    × (given (codes "prec") ≡ prec) × GivesCores (given (codes "cores")) cores
