-- Lists that are gone over one by one, and the text of lines so far.
use Rattle.std.proofs.Common.{◌≡◌, ℕ, suc, zero, List, [], ◌∷◌, ◌++◌, ◌+◌, ◌<◌, ◌≤◌, drop, length, take, refl, sym, ap, ◌∙◌, subst, arith, append-nil, append_assoc}
use Rattle.std.specs.Prelude.{flat_map}
use Rattle.cert_text.specs.declared.line.CertLine.{CertLine}
use Rattle.cert_text.specs.Grammar.{second_version}
use Rattle.cert_text.specs.Spelling.{line_text}
use Rattle.graph_builder.specs.Writing.{text_of}

-- an element has gone over
pub moved : {X : Type 0} (done : List X) (x : X) (rest left whole : List X) → left ≡ x ∷ rest → done ++ left ≡ whole → (done ++ x ∷ []) ++ rest ≡ whole
moved done x rest left whole is all = append_assoc done (x ∷ []) rest ∙ ap (λ l. done ++ l) (sym is) ∙ all

-- all have
pub all_moved : {X : Type 0} (done left whole : List X) → left ≡ [] → done ++ left ≡ whole → done ≡ whole
all_moved done left whole none all = sym (append-nil done) ∙ ap (λ l. done ++ l) (sym none) ∙ all

pub dropped : {X : Type 0} (k : ℕ) (xs : List X) → length xs ≤ k → drop k xs ≡ []
dropped zero [] h = refl
dropped (suc k) [] h = refl
dropped zero (x ∷ xs) h = absurd (omega arith)
dropped (suc k) (x ∷ xs) h = dropped k xs (omega arith)

-- ---- the text of lines

pub text_cons : (l : CertLine) (ls : List CertLine) → text_of (l ∷ ls) ≡ text_of (l ∷ []) ++ text_of ls
unfolding text_of
text_cons l ls = ap (λ t. t ++ flat_map (line_text second_version) ls) (sym (append-nil (line_text second_version l)))

pub text_none : text_of [] ≡ []
unfolding text_of
text_none = refl

pub text_append : (ks ls : List CertLine) → text_of (ks ++ ls) ≡ text_of ks ++ text_of ls
text_append [] ls = ap (λ t. t ++ text_of ls) (sym text_none)
text_append (k ∷ ks) ls =
    text_cons k (ks ++ ls) ∙ ap (λ t. text_of (k ∷ []) ++ t) (text_append ks ls) ∙ sym (append_assoc (text_of (k ∷ [])) (text_of ks) (text_of ls))
    ∙ ap (λ t. t ++ text_of ls) (sym (text_cons k ks))

-- a line more is written, and one less is left
pub line_moved : (old more : List ℕ) (l : CertLine) (rest left : List CertLine) (whole : List ℕ) → left ≡ l ∷ rest → more ≡ old ++ text_of (l ∷ []) → old ++ text_of left ≡ whole →
    more ++ text_of rest ≡ whole
line_moved old more l rest left whole is now all =
    ap (λ t. t ++ text_of rest) now ∙ append_assoc old (text_of (l ∷ [])) (text_of rest)
    ∙ ap (λ t. old ++ t) (sym (text_cons l rest) ∙ ap text_of (sym is)) ∙ all

-- no line is left
pub lines_moved : (old : List ℕ) (left : List CertLine) (whole : List ℕ) → left ≡ [] → old ++ text_of left ≡ whole → old ≡ whole
lines_moved old left whole none all = sym (append-nil old) ∙ ap (λ t. old ++ t) (sym (ap text_of none ∙ text_none)) ∙ all

-- one text behind another
pub text_behind : (start one two : List ℕ) (ks ls : List CertLine) → one ≡ start ++ text_of ks → two ≡ one ++ text_of ls → two ≡ start ++ text_of (ks ++ ls)
text_behind start one two ks ls first second =
    second ∙ ap (λ t. t ++ text_of ls) first ∙ append_assoc start (text_of ks) (text_of ls) ∙ ap (λ t. start ++ t) (sym (text_append ks ls))

-- ---- what stood before

pub begins_itself : {X : Type 0} (xs : List X) → take (length xs) xs ≡ xs
begins_itself [] = refl
begins_itself (x ∷ xs) = ap (λ l. x ∷ l) (begins_itself xs)

kept : {X : Type 0} (start old t : List X) → take (length start) old ≡ start → take (length start) (old ++ t) ≡ start
kept [] old t b = refl
kept (x ∷ start) [] t b = absurd (cc)
kept (x ∷ start) (y ∷ old) t b =
    let same : y ≡ x = cc in
    let rest : take (length start) old ≡ start = cc in
    λ i. same i ∷ kept start old t rest i

-- it still stands there when more is written
pub begins_more : {X : Type 0} (start old more t : List X) → take (length start) old ≡ start → more ≡ old ++ t → take (length start) more ≡ start
begins_more start old more t b is = ap (take (length start)) is ∙ kept start old t b

-- one behind the other
pub begins_both : {X : Type 0} (start old more : List X) → take (length start) old ≡ start → take (length old) more ≡ old → take (length start) more ≡ start
begins_both start old more one two = shorter (length start) (length old) more (fits start old one) ∙ ap (take (length start)) two ∙ one
  where
    fits : {Y : Type 0} (start old : List Y) → take (length start) old ≡ start → length start ≤ length old
    fits [] old b = omega arith
    fits (x ∷ start) [] b = absurd (cc)
    fits (x ∷ start) (y ∷ old) b = let rest : take (length start) old ≡ start = cc in let less = fits start old rest in omega (arith, less)

    shorter : {Y : Type 0} (m n : ℕ) (xs : List Y) → m ≤ n → take m xs ≡ take m (take n xs)
    shorter zero n xs le = refl
    shorter (suc m) zero xs le = absurd (omega arith)
    shorter (suc m) (suc n) [] le = refl
    shorter (suc m) (suc n) (x ∷ xs) le = ap (λ l. x ∷ l) (shorter m n xs (omega arith))
