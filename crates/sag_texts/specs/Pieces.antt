-- The pieces of a text.
--   piece_text   the text of a piece
--   piece_texts  the texts of pieces
use Rattle.std.specs.Prelude.{ℕ, List, map}
use Rattle.std.specs.Fmt.{decimal}
use Rattle.sag_texts.specs.FaultTexts.{file_word}
use Rattle.sag_texts.specs.declared.piece.Piece.{Piece}
use Rattle.sag_texts.specs.declared.piece.Piece.TheVariants.{File, Number, Words}

-- the text of a piece
abbrev pub piece_text : Piece → List ℕ
piece_text (Words text) = text.now
piece_text (File file) = file_word file
piece_text (Number n) = decimal n

-- the texts of pieces
abbrev pub piece_texts : List Piece → List (List ℕ)
piece_texts pieces = map piece_text pieces
