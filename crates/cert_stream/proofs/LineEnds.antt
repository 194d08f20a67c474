-- The first line of a piece, and what stands behind the last LF of some bytes.
use Rattle.std.proofs.Common.{◌≡◌, ℕ, ◌+◌, ◌<◌, ◌==◌, Bool, true, false, cond, List, [], ◌∷◌, ◌++◌, length, take, refl, sym, ap, ◌∙◌, append_assoc, append-nil, arith, codes}
use Rattle.std.specs.Prelude.{count_by, decimal}
use Rattle.std.specs.List.{flat_map, fold}
use Rattle.std.proofs.lemmas.List.Sums.{fold-append, sum_by-append}
use Rattle.cert_text.specs.declared.line.Mark.TheVariants as mark
use Rattle.cert_text.specs.declared.line.CertLine.{CertLine}
use Rattle.cert_text.specs.declared.line.CertLine.TheVariants as line
use Rattle.cert_text.specs.declared.grammar.Grammar.{Grammar}
use Rattle.cert_text.specs.Spelling.{line_text, head_word, pair_item_text, state_line_text}
use Rattle.cert_text.specs.Taken.{is_lf, after_last_lf}
use Rattle.cert_text.specs.Reader.{first_line}

-- ---- the first line of a piece

-- the first line of a byte and others
line_at : ℕ → List ℕ → Bool → List ℕ
line_at b bs v = cond v (b ∷ []) (b ∷ first_line bs)

first_take_at : (b : ℕ) (bs : List ℕ) (v : Bool) → take (length (first_line bs)) bs ≡ first_line bs → take (length (line_at b bs v)) (b ∷ bs) ≡ line_at b bs v
unfolding line_at
first_take_at b bs true rest = refl
first_take_at b bs false rest = ap (λ (t : List ℕ). b ∷ t) rest

pub first_take : (piece : List ℕ) → take (length (first_line piece)) piece ≡ first_line piece
unfolding line_at
first_take [] = refl
first_take (b ∷ bs) = first_take_at b bs (b == 10) (first_take bs)

some_at : (b : ℕ) (bs : List ℕ) (v : Bool) → 0 < length (line_at b bs v)
unfolding line_at
some_at b bs true = omega arith
some_at b bs false = omega arith

pub first_some : (piece : List ℕ) → 0 < length piece → 0 < length (first_line piece)
unfolding line_at
first_some [] some = absurd (omega (arith, some))
first_some (b ∷ bs) some = some_at b bs (b == 10)

-- ---- a piece without an LF

count_at : (b : ℕ) (bs : List ℕ) (v : Bool) → (b == 10) ≡ v → count_by is_lf (b ∷ bs) ≡ cond v 1 0 + count_by is_lf bs
count_at b bs v e =
    sum_by-append (λ (x : ℕ). cond (is_lf x) 1 0) (b ∷ []) bs
    ∙ ap (λ (w : Bool). 0 + cond w 1 0 + count_by is_lf bs) e ∙ omega arith

-- the byte and those behind it are no LF
pub record NoLf (b : ℕ) (bs : List ℕ) : Type 0 where
  pub front : (b == 10) ≡ false
  pub behind : count_by is_lf bs ≡ 0

no_lf_at : (b : ℕ) (bs : List ℕ) (v : Bool) → (b == 10) ≡ v → count_by is_lf (b ∷ bs) ≡ 0 → NoLf b bs
no_lf_at b bs true e none = absurd (omega (arith, count_at b bs true e, none))
no_lf_at b bs false e none = record { front = e; behind = omega (arith, count_at b bs false e, none) }

no_lf : (b : ℕ) (bs : List ℕ) → count_by is_lf (b ∷ bs) ≡ 0 → NoLf b bs
no_lf b bs none = no_lf_at b bs (b == 10) refl none

pub first_whole : (piece : List ℕ) → count_by is_lf piece ≡ 0 → first_line piece ≡ piece
first_whole [] none = refl
first_whole (b ∷ bs) none =
    let n = no_lf b bs none in
    ap (λ (v : Bool). cond v (b ∷ []) (b ∷ first_line bs)) n.front ∙ ap (λ (t : List ℕ). b ∷ t) (first_whole bs n.behind)

-- ---- behind the last LF

-- the bytes of the last line, after a byte
abbrev one_byte : List ℕ → ℕ → List ℕ
one_byte rest b = cond (is_lf b) [] (rest ++ b ∷ [])

after_append : (xs ys : List ℕ) → after_last_lf (xs ++ ys) ≡ fold one_byte (after_last_lf xs) ys
after_append xs ys = fold-append one_byte [] xs ys

fold_none : (rest ys : List ℕ) → count_by is_lf ys ≡ 0 → fold one_byte rest ys ≡ rest ++ ys
fold_none rest [] none = sym (append-nil rest)
fold_none rest (b ∷ bs) none =
    let n = no_lf b bs none in
    ap (λ (v : Bool). fold one_byte (cond v [] (rest ++ b ∷ [])) bs) n.front
    ∙ fold_none (rest ++ b ∷ []) bs n.behind ∙ append_assoc rest (b ∷ []) bs

-- more bytes without an LF
pub after_none : (xs ys : List ℕ) → count_by is_lf ys ≡ 0 → after_last_lf (xs ++ ys) ≡ after_last_lf xs ++ ys
after_none xs ys none = after_append xs ys ∙ fold_none (after_last_lf xs) ys none

-- bytes whose last is an LF
record EndsWithLf (bytes : List ℕ) : Type 0 where
  front : List ℕ
  are : bytes ≡ front ++ 10 ∷ []

line_ends : (g : Grammar) (l : CertLine) → EndsWithLf (line_text g l)
line_ends g (line.Head jobs cores) = record { front = head_word g ++ decimal jobs ++ 32 ∷ [] ++ decimal cores; are = refl }
line_ends g (line.Level number count) = record { front = codes "level " ++ decimal number ++ 32 ∷ [] ++ decimal count; are = refl }
line_ends g (line.Root pairs) = record { front = codes "root" ++ flat_map pair_item_text pairs; are = refl }
line_ends g (line.State parent job pairs ends last) = record { front = state_line_text g parent job pairs ends last; are = refl }
line_ends g (line.Edge from job est lst to) =
    record { front = codes "edge " ++ decimal from ++ 32 ∷ [] ++ decimal job ++ 32 ∷ [] ++ decimal est ++ 32 ∷ [] ++ decimal lst ++ 32 ∷ [] ++ decimal to; are = refl }
line_ends g (line.Job number lo hi mark.Ok) =
    let front = codes "job " ++ decimal number ++ 32 ∷ [] ++ decimal lo ++ 32 ∷ [] ++ decimal hi ++ 32 ∷ [] in
    record { front = front ++ codes "ok"; are = sym (append_assoc front (codes "ok") (10 ∷ [])) }
line_ends g (line.Job number lo hi mark.Miss) =
    let front = codes "job " ++ decimal number ++ 32 ∷ [] ++ decimal lo ++ 32 ∷ [] ++ decimal hi ++ 32 ∷ [] in
    record { front = front ++ codes "miss"; are = sym (append_assoc front (codes "miss") (10 ∷ [])) }
line_ends g (line.Verdict mark.Ok) = record { front = codes "verdict ok"; are = refl }
line_ends g (line.Verdict mark.Miss) = record { front = codes "verdict miss"; are = refl }
line_ends g line.End = record { front = codes "end"; are = refl }

-- nothing stands behind a line
pub after_line : (g : Grammar) (xs : List ℕ) (l : CertLine) → after_last_lf (xs ++ line_text g l) ≡ []
after_line g xs l =
    let e = line_ends g l in
    ap after_last_lf (ap (λ (t : List ℕ). xs ++ t) e.are ∙ sym (append_assoc xs e.front (10 ∷ []))) ∙ after_append (xs ++ e.front) (10 ∷ [])
