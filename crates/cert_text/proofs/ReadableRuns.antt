-- Whole certificates: what is readable is taken to its end, so it has one list of lines and is no proper prefix of another.
use Rattle.std.proofs.Common.{◌≡◌, ℕ, List, [], ◌∷◌, ◌++◌, Option, Some, None, refl, sym, ap, subst, ◌∙◌, append_assoc}
use Rattle.std.specs.List.{flat_map, AllByRecursion}
use Rattle.cert_text.specs.declared.line.CertLine.{CertLine}
use Rattle.cert_text.specs.declared.line.CertLine.TheVariants as line
use Rattle.cert_text.specs.declared.grammar.Grammar.{Grammar}
use Rattle.cert_text.specs.declared.spot.Standing.TheVariants as standing
use Rattle.cert_text.specs.declared.spot.Spot.TheVariants as spot
use Rattle.cert_text.specs.Spelling.{line_text, FitsLine}
use Rattle.cert_text.specs.Readable.{Readable, IsHead, IsInner}
use Rattle.cert_text.specs.Machine.{no_items, Step, On, Whole, Wrong, byte_step, byte_steps, Text, standing_after, settle, advance, advances, text_start, run}
use Rattle.cert_text.proofs.SpellingsTaken.{head_taken, level_taken, root_taken, state_taken, edge_taken, job_taken, verdict_taken, end_taken}

abbrev pub after_line : Text → CertLine → Text
after_line t l = record { lines = t.lines ++ l ∷ []; standing = standing_after l; draft = no_items; spot = spot.Start }

whole_is : (k l : CertLine) → Whole k ≡ Whole l → k ≡ l
whole_is k l e = cc

go : (g : Grammar) (bytes : List ℕ) (t : Text) (now : Step) (l : CertLine) → byte_steps g t.standing now bytes ≡ Whole l → advances g (settle t now) bytes ≡ Some (after_line t l)
go g [] t (On d p) l e = absurd cc
go g [] t (Whole k) l e = ap (λ (x : CertLine). Some (after_line t x)) (whole_is k l e)
go g [] t Wrong l e = absurd cc
go g (b ∷ bs) t (On d p) l e = go g bs (record { lines = t.lines; standing = t.standing; draft = d; spot = p }) (byte_step g t.standing d p b) l e
go g (b ∷ bs) t (Whole k) l e = absurd cc
go g (b ∷ bs) t Wrong l e = absurd cc

pub lift : (g : Grammar) (t : Text) (bytes : List ℕ) (l : CertLine) → byte_steps g t.standing (On t.draft t.spot) bytes ≡ Whole l → advances g (Some t) bytes ≡ Some (after_line t l)
lift g t bytes l e = go g bytes t (On t.draft t.spot) l e

none_left : (g : Grammar) (bytes : List ℕ) → advances g None bytes ≡ None
none_left g [] = refl
none_left g (b ∷ bs) = refl

pub advances-append : (g : Grammar) (t : Option Text) (xs ys : List ℕ) → advances g t (xs ++ ys) ≡ advances g (advances g t xs) ys
advances-append g t [] ys = refl
advances-append g None (b ∷ bs) ys = sym (none_left g ys)
advances-append g (Some t) (b ∷ bs) ys = advances-append g (advance g t b) bs ys

abbrev pub inside : List CertLine → Text
inside ls = record { lines = ls; standing = standing.Inside; draft = no_items; spot = spot.Start }

abbrev pub over : List CertLine → Text
over ls = record { lines = ls; standing = standing.Over; draft = no_items; spot = spot.Start }

pub inner_step : (g : Grammar) (ls : List CertLine) (l : CertLine) → IsInner l → FitsLine g l → advances g (Some (inside ls)) (line_text g l) ≡ Some (inside (ls ++ l ∷ []))
inner_step g ls (line.Head jobs cores) i f = absurd i
inner_step g ls (line.Level number count) i f = lift g (inside ls) (line_text g (line.Level number count)) (line.Level number count) (level_taken g number count f.0 f.1)
inner_step g ls (line.Root pairs) i f = lift g (inside ls) (line_text g (line.Root pairs)) (line.Root pairs) (root_taken g pairs f)
inner_step g ls (line.State parent job pairs ends last) i f =
    lift g (inside ls) (line_text g (line.State parent job pairs ends last)) (line.State parent job pairs ends last) (state_taken g parent job pairs ends last f)
inner_step g ls (line.Edge from job est lst to) i f =
    lift g (inside ls) (line_text g (line.Edge from job est lst to)) (line.Edge from job est lst to) (edge_taken g from job est lst to f.0 f.1 f.2 f.3 f.4)
inner_step g ls (line.Job number lo hi mark) i f = lift g (inside ls) (line_text g (line.Job number lo hi mark)) (line.Job number lo hi mark) (job_taken g number lo hi mark f.0 f.1 f.2)
inner_step g ls (line.Verdict mark) i f = lift g (inside ls) (line_text g (line.Verdict mark)) (line.Verdict mark) (verdict_taken g mark)
inner_step g ls line.End i f = absurd i

head_step : (g : Grammar) (l : CertLine) → IsHead l → FitsLine g l → advances g (Some text_start) (line_text g l) ≡ Some (inside (l ∷ []))
head_step g (line.Head jobs cores) i f = lift g text_start (line_text g (line.Head jobs cores)) (line.Head jobs cores) (head_taken g jobs cores f.0 f.1)
head_step g (line.Level number count) i f = absurd i
head_step g (line.Root pairs) i f = absurd i
head_step g (line.State parent job pairs ends last) i f = absurd i
head_step g (line.Edge from job est lst to) i f = absurd i
head_step g (line.Job number lo hi mark) i f = absurd i
head_step g (line.Verdict mark) i f = absurd i
head_step g line.End i f = absurd i

inner_run : (g : Grammar) (ls inner : List CertLine) → AllByRecursion IsInner inner → AllByRecursion (FitsLine g) (inner ++ line.End ∷ [])
    → advances g (Some (inside ls)) (flat_map (line_text g) (inner ++ line.End ∷ [])) ≡ Some (over (ls ++ (inner ++ line.End ∷ [])))
inner_run g ls [] i f = lift g (inside ls) (line_text g line.End) line.End (end_taken g)
inner_run g ls (l ∷ inner) i f =
    advances-append g (Some (inside ls)) (line_text g l) (flat_map (line_text g) (inner ++ line.End ∷ []))
    ∙ ap (λ (t : Option Text). advances g t (flat_map (line_text g) (inner ++ line.End ∷ []))) (inner_step g ls l i.0 f.0)
    ∙ inner_run g (ls ++ l ∷ []) inner i.1 f.1
    ∙ ap (λ (ms : List CertLine). Some (over ms)) (append_assoc ls (l ∷ []) (inner ++ line.End ∷ []))

-- What is readable is taken to its end.
pub readable_run : (g : Grammar) (bytes : List ℕ) (lines : List CertLine) → Readable g bytes lines → run g bytes ≡ Some (over lines)
readable_run g bytes lines r =
    let whole = r.head ∷ (r.inner ++ line.End ∷ []) in
    let fit : AllByRecursion (FitsLine g) whole = subst (AllByRecursion (FitsLine g)) r.are r.fit in
    let rest = flat_map (line_text g) (r.inner ++ line.End ∷ []) in
    ap (run g) (r.spelled ∙ ap (flat_map (line_text g)) r.are)
    ∙ advances-append g (Some text_start) (line_text g r.head) rest
    ∙ ap (λ (t : Option Text). advances g t rest) (head_step g r.head r.is_head fit.0)
    ∙ inner_run g (r.head ∷ []) r.inner r.are_inner fit.1
    ∙ ap (λ (ms : List CertLine). Some (over ms)) (sym r.are)

abbrev lines_held : Option Text → List CertLine
lines_held None = []
lines_held (Some t) = t.lines

some_is_not_none : (t : Text) → Some t ≡ None → ⊥
some_is_not_none t e = cc

over_is : (ls ms : List CertLine) → Some (over ls) ≡ Some (over ms) → ls ≡ ms
over_is ls ms e = ap lines_held e

-- A readable certificate has one list of lines.
pub one_reading : (g : Grammar) (bytes : List ℕ) (ls ms : List CertLine) → Readable g bytes ls → Readable g bytes ms → ls ≡ ms
one_reading g bytes ls ms r q = over_is ls ms (sym (readable_run g bytes ls r) ∙ readable_run g bytes ms q)

-- A list of lines has one spelling.
pub one_spelling : (g : Grammar) (a b : List ℕ) (lines : List CertLine) → Readable g a lines → Readable g b lines → a ≡ b
one_spelling g a b lines r q = r.spelled ∙ sym q.spelled

-- No readable certificate is a proper prefix of another.
pub no_proper_prefix : (g : Grammar) (a more : List ℕ) (ls ms : List CertLine) → Readable g a ls → Readable g (a ++ more) ms → more ≡ []
no_proper_prefix g a [] ls ms r q = refl
no_proper_prefix g a (b ∷ bs) ls ms r q =
    let over_more : run g (a ++ b ∷ bs) ≡ None = advances-append g (Some text_start) a (b ∷ bs) ∙ ap (λ (t : Option Text). advances g t (b ∷ bs)) (readable_run g a ls r) ∙ none_left g bs in
    absurd (some_is_not_none (over ms) (sym (readable_run g (a ++ b ∷ bs) ms q) ∙ over_more))
