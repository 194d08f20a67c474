-- The words of `report`.
--   report_app        the grammar of `report`
--   HasReportValues   the values are those of this report
use Rattle.std.specs.Prelude.{◌≡◌, [], ◌∷◌, ℕ, Bool, Option, Some, codes}
use Rattle.clap.specs.Words.{App, Text}
use Rattle.sag_words.specs.Apps.{Values, app_with, flag, named, place}
use Rattle.sag_words.specs.Flags.{is_given}
use Rattle.sag_words.specs.Numbers.{GivesCores}

-- report JOBS CERT [--prec FILE] [--cores N] [--tasks]
abbrev pub report_app : App
report_app = app_with (codes "report") (place (codes "JOBS") ∷ place (codes "CERT") ∷ named (codes "prec") ∷ named (codes "cores") ∷ flag (codes "tasks") ∷ [])

-- the values are those of this report
abbrev pub HasReportValues : Values → Text → Text → Option Text → ℕ → Bool → Type 0
HasReportValues given jobs cert prec cores tasks = (given (codes "JOBS") ≡ Some jobs) × (given (codes "CERT") ≡ Some cert)
    × (given (codes "prec") ≡ prec) × GivesCores (given (codes "cores")) cores × (is_given (given (codes "tasks")) ≡ tasks)
