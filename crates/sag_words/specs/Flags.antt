-- Flags.
--   is_given   whether a flag is given, by the value that its argument has
use Rattle.std.specs.Prelude.{Bool, false, Option, None, Some, codes, nat_eq}
use Rattle.std.specs.Cmp.Lexicographic.{pointwise}
use Rattle.clap.specs.Words.{Text}

-- the value of a flag is `true` where it is given, and else `false`
abbrev pub is_given : Option Text → Bool
is_given None = false
is_given (Some text) = pointwise nat_eq text (codes "true")
