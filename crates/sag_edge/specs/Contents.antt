-- Files by their names.
--   Contents  each file's name and bytes
--   bytes_at  the bytes of the file of a name
--   left_of   what is left of the current file
use Rattle.std.specs.Prelude.{ℕ, List, [], ◌∷◌, if◌then◌else◌, drop, None, Some}
use Rattle.std.specs.declared.option.Option.{Option}
use Rattle.std.specs.Str.{bytes_eq}

-- each file's name and bytes; where a name stands twice, its first pair counts
abbrev pub Contents : Type 0
Contents = List (List ℕ × List ℕ)

-- the bytes of the first file of that name, and none where there is no such file
abbrev pub bytes_at : Contents → List ℕ → List ℕ
bytes_at [] name = []
bytes_at (file ∷ files) name = if bytes_eq file.0 name then file.1 else bytes_at files name

-- what is left of the current file, of which so many bytes were read
abbrev pub left_of : Contents → Option (List ℕ) → ℕ → List ℕ
left_of files None place = []
left_of files (Some name) place = drop place (bytes_at files name)
