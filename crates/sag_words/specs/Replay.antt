-- The words of `replay`.
--   replay_app        the grammar of `replay`
--   HasReplayValues   the values are those of this replay
use Rattle.std.specs.Prelude.{◌≡◌, [], ◌∷◌, ℕ, Option, Some, codes}
use Rattle.clap.specs.Words.{App, Text}
use Rattle.sag_words.specs.Apps.{Values, app_with, named, place}
use Rattle.sag_words.specs.Numbers.{GivesCores}

-- replay JOBS SCENARIO [--prec FILE] [--cores N]
abbrev pub replay_app : App
replay_app = app_with (codes "replay") (place (codes "JOBS") ∷ place (codes "SCENARIO") ∷ named (codes "prec") ∷ named (codes "cores") ∷ [])

-- the values are those of this replay
abbrev pub HasReplayValues : Values → Text → Text → Option Text → ℕ → Type 0
HasReplayValues given jobs scenario prec cores = (given (codes "JOBS") ≡ Some jobs) × (given (codes "SCENARIO") ≡ Some scenario)
    × (given (codes "prec") ≡ prec) × GivesCores (given (codes "cores")) cores
