-- The words of `convert`.
--   convert_app        the grammar of `convert`
--   HasConvertValues   the value is that of this conversion
use Rattle.std.specs.Prelude.{◌≡◌, [], ◌∷◌, Some, codes}
use Rattle.clap.specs.Words.{App, Text}
use Rattle.sag_words.specs.Apps.{Values, app_with, place}

-- convert CERT
abbrev pub convert_app : App
convert_app = app_with (codes "convert") (place (codes "CERT") ∷ [])

-- the value is that of this conversion
abbrev pub HasConvertValues : Values → Text → Type 0
HasConvertValues given cert = given (codes "CERT") ≡ Some cert
