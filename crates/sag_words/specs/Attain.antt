-- The words of `attain`.
--   attain_app        the grammar of `attain`
--   HasAttainValues   the values are those of this scenario
use Rattle.std.specs.Prelude.{◌≡◌, [], ◌∷◌, ℕ, Some, codes}
use Rattle.clap.specs.Words.{App, Text}
use Rattle.job_model.specs.declared.interval_end.End.{End}
use Rattle.sag_words.specs.Apps.{Values, app_with, named, place}
use Rattle.sag_words.specs.Ends.{GivesEnd}
use Rattle.sag_words.specs.Numbers.{GivesBudget, GivesNumber}

-- attain JOBS TASK JOB best|worst [--budget N]
abbrev pub attain_app : App
attain_app = app_with (codes "attain") (place (codes "JOBS") ∷ place (codes "TASK") ∷ place (codes "JOB") ∷ place (codes "END") ∷ named (codes "budget") ∷ [])

-- the values are those of this scenario
abbrev pub HasAttainValues : Values → Text → ℕ → ℕ → End → ℕ → Type 0
HasAttainValues given jobs task job end budget = (given (codes "JOBS") ≡ Some jobs) × GivesNumber (given (codes "TASK")) task
    × GivesNumber (given (codes "JOB")) job × GivesEnd (given (codes "END")) end × GivesBudget (given (codes "budget")) budget
