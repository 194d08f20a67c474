-- How one field of a table of numbers reads.
--     is_blank b            b is a space or a tab
--     without_blanks text   the text without the blanks at its start
--     bare field            the field without the blanks at its ends
--     IsNumber text         the text is one or more digits
--     value_of text         the value of a text of digits, in base 10
--     Spells text n         the text is a number with the value n, which 64 bits hold
--     IsTooBig text         the text is a number with a value that 64 bits do not hold
use Rattle.std.specs.Prelude.{◌≡◌, ◌<◌, ◌≤◌, ◌^◌, ◌==◌, ◌||◌, ℕ, Bool, List, [], ◌∷◌, length, reverse, if◌then◌else◌}
use Rattle.std.specs.Char.{IsAsciiDigit}
use Rattle.std.specs.List.{All}
use Rattle.std.specs.Str.Parse.{digits_value}

-- a space or a tab
abbrev pub is_blank : ℕ → Bool
is_blank b = (b == 32) || (b == 9)

-- a text without the blanks at its start
unfoldable pub without_blanks : List ℕ → List ℕ
without_blanks [] = []
without_blanks (b ∷ rest) = if is_blank b then without_blanks rest else b ∷ rest

-- a field without the blanks at its ends
abbrev pub bare : List ℕ → List ℕ
bare field = reverse (without_blanks (reverse (without_blanks field)))

-- the text is one or more digits
abbrev pub IsNumber : List ℕ → Type 0
IsNumber text = (0 < length text) × All IsAsciiDigit text

-- the value of a text of digits, in base 10
abbrev pub value_of : List ℕ → ℕ
value_of = digits_value 10

-- the text is a number with the value n, which 64 bits hold
pub record Spells (text : List ℕ) (n : ℕ) : Type 0 where
  pub digits : IsNumber text
  pub value : value_of text ≡ n
  pub fits : n < 2 ^ 64

-- the text is a number with a value that 64 bits do not hold
pub record IsTooBig (text : List ℕ) : Type 0 where
  pub digits : IsNumber text
  pub big : 2 ^ 64 ≤ value_of text
