-- The text of a table of numbers, as it is written.
--     next_field before field   a field behind so many others of its line
--     line_of fields            the fields joined by commas alone, and a line feed
--     row_line numbers          the line of a row: its numbers in decimal, without leading zeros
--     rows_text heading rows    the line of the heading, and a line for each row
--     is_plain word             the word stands in a line as it is: printable ASCII without commas and double quotes
--     are_plain words           there is a word, and each is plain
use Rattle.std.specs.Prelude.{◌==◌, ◌&&◌, ◌++◌, ◌∷◌, [], zero, suc, ℕ, Bool, List, length, map, decimal, not, nat_le, nat_lt}
use Rattle.std.specs.List.{flat_map, join_with_byte, list_all}

-- a field behind so many others of its line: after a comma, if there are any
abbrev pub next_field : ℕ → List ℕ → List ℕ
next_field zero field = field
next_field (suc before) field = 44 ∷ field

-- the fields joined by commas alone, and a line feed
abbrev pub line_of : List (List ℕ) → List ℕ
line_of fields = join_with_byte 44 fields ++ 10 ∷ []

-- the line of a row: its numbers in decimal, without leading zeros
abbrev pub row_line : List ℕ → List ℕ
row_line numbers = line_of (map decimal numbers)

-- the line of the heading, and a line for each row
unfoldable pub rows_text : List (List ℕ) → List (List ℕ) → List ℕ
rows_text heading rows = line_of heading ++ flat_map row_line rows

-- a printable character of ASCII, but no comma and no double quote
abbrev pub is_plain_byte : ℕ → Bool
is_plain_byte b = nat_le 32 b && nat_lt b 127 && not (b == 44) && not (b == 34)

-- the word is not empty, and stands in a line as it is
abbrev pub is_plain : List ℕ → Bool
is_plain word = not (length word == 0) && list_all is_plain_byte word

-- there is a word, and each is plain
abbrev pub are_plain : List (List ℕ) → Bool
are_plain words = not (length words == 0) && list_all is_plain words
