-- The words of `selftest`.
--   selftest_app        the grammar of `selftest`
--   HasSelftestValues   the values are those of this workload
use Rattle.std.specs.Prelude.{[], ◌∷◌, ℕ, codes}
use Rattle.clap.specs.Words.{App}
use Rattle.sag_words.specs.Apps.{Values, app_with, named, place}
use Rattle.sag_words.specs.Numbers.{GivesCores, GivesNumber}

-- selftest NUMBER [--cores N]
abbrev pub selftest_app : App
selftest_app = app_with (codes "selftest") (place (codes "NUMBER") ∷ named (codes "cores") ∷ [])

-- the values are those of this workload
abbrev pub HasSelftestValues : Values → ℕ → ℕ → Type 0
HasSelftestValues given number cores = GivesNumber (given (codes "NUMBER")) number × GivesCores (given (codes "cores")) cores
