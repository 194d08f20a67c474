-- The words of `audit`.
--   audit_app        the grammar of `audit`
--   HasAuditValues   the values are those of this audit
use Rattle.std.specs.Prelude.{◌≡◌, [], ◌∷◌, ℕ, Option, Some, codes}
use Rattle.clap.specs.Words.{App, Text}
use Rattle.sag_words.specs.Apps.{Values, app_with, named, place}
use Rattle.sag_words.specs.Numbers.{GivesCores}

-- audit JOBS SCENARIO RUN [--prec FILE] [--cores N]
abbrev pub audit_app : App
audit_app = app_with (codes "audit") (place (codes "JOBS") ∷ place (codes "SCENARIO") ∷ place (codes "RUN") ∷ named (codes "prec") ∷ named (codes "cores") ∷ [])

-- the values are those of this audit
abbrev pub HasAuditValues : Values → Text → Text → Text → Option Text → ℕ → Type 0
HasAuditValues given jobs scenario run prec cores = (given (codes "JOBS") ≡ Some jobs) × (given (codes "SCENARIO") ≡ Some scenario)
    × (given (codes "RUN") ≡ Some run) × (given (codes "prec") ≡ prec) × GivesCores (given (codes "cores")) cores
