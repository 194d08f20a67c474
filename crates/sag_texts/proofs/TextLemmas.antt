-- Texts that are written in parts.
use Rattle.std.proofs.Common.{◌≡◌, ◌∙◌, ◌<◌, ◌+◌, ◌∷◌, ◌++◌, List, [], ℕ, Ok, ap, append_assoc, append-nil, arith, drop, get_or, length, refl, sym, take}
use Rattle.std.proofs.lemmas.List.{map-append, take-append-drop, take_more}
use Rattle.std.specs.List.{concat}
use Rattle.sag_edge.specs.Writing.{Puts, SeenSink}
use Rattle.sag_edge.proofs.WriteLemmas.{takes_none, tells_none}
use Rattle.sag_texts.specs.FaultTexts.{line}
use Rattle.sag_texts.specs.Pieces.{piece_text, piece_texts}
use Rattle.sag_texts.specs.declared.piece.Piece.{Piece}

concat-append : (xs ys : List (List ℕ)) → concat (xs ++ ys) ≡ concat xs ++ concat ys
concat-append [] ys = refl
concat-append (x ∷ xs) ys = ap (λ t. x ++ t) (concat-append xs ys) ∙ sym (append_assoc x (concat xs) (concat ys))

-- a line that begins with some pieces
pub line-append : (xs ys : List (List ℕ)) → line (xs ++ ys) ≡ concat xs ++ line ys
unfolding line
line-append xs ys = ap (λ t. t ++ 10 ∷ []) (concat-append xs ys) ∙ append_assoc (concat xs) (concat ys) (10 ∷ [])

-- the text of two lists of pieces
text-append : (xs ys : List Piece) → concat (piece_texts (xs ++ ys)) ≡ concat (piece_texts xs) ++ concat (piece_texts ys)
text-append xs ys = ap concat (map-append piece_text xs ys) ∙ concat-append (piece_texts xs) (piece_texts ys)

-- one more piece
pub text-take_more : (pieces : List Piece) (i : ℕ) (d : Piece) → i < length pieces
    → concat (piece_texts (take (i + 1) pieces)) ≡ concat (piece_texts (take i pieces)) ++ piece_text (get_or pieces i d)
text-take_more pieces i d within = ap (λ t. concat (piece_texts t)) (take_more pieces i d within) ∙ text-append (take i pieces) (get_or pieces i d ∷ [])
    ∙ ap (λ t. concat (piece_texts (take i pieces)) ++ t) (append-nil (piece_text (get_or pieces i d)))

-- a piece among the others
pub text-split : (pieces : List Piece) (i : ℕ) (d : Piece) → i < length pieces
    → concat (piece_texts pieces) ≡ concat (piece_texts (take i pieces)) ++ piece_text (get_or pieces i d) ++ concat (piece_texts (drop (i + 1) pieces))
text-split pieces i d within = ap (λ t. concat (piece_texts t)) (sym (take-append-drop (i + 1) pieces)) ∙ text-append (take (i + 1) pieces) (drop (i + 1) pieces)
    ∙ ap (λ t. t ++ concat (piece_texts (drop (i + 1) pieces))) (text-take_more pieces i d within)

-- nothing is written yet
pub puts_none : {E : Type 0} (sink : SeenSink) → Puts {T = Unit {0}} {E = E} sink sink [] (Ok tt)
puts_none sink = record {
  later = omega arith;
  ok = takes_none sink.taken;
  failed = tt;
  tells = tells_none sink;
}
