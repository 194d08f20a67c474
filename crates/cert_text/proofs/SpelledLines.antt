-- The lines of a text are determined, also where nothing is said of their order.
use Rattle.std.proofs.Common.{◌≡◌, ℕ, Bool, true, false, cond, refl, List, [], ◌∷◌, ◌++◌, Option, Some, None, sym, ap, subst, ◌∙◌, append_assoc, append-nil}
use Rattle.std.specs.List.{flat_map, AllByRecursion}
use Rattle.cert_text.specs.declared.line.Pair.{Pair}
use Rattle.cert_text.specs.declared.line.EndOf.{EndOf}
use Rattle.cert_text.specs.declared.line.CertLine.{CertLine}
use Rattle.cert_text.specs.declared.line.CertLine.TheVariants as line
use Rattle.cert_text.specs.declared.grammar.Grammar.{Grammar}
use Rattle.cert_text.specs.declared.spot.Standing.{Standing}
use Rattle.cert_text.specs.declared.spot.Standing.TheVariants as standing
use Rattle.cert_text.specs.declared.spot.Spot.TheVariants as spot
use Rattle.cert_text.specs.Spelling.{line_text, FitsLine, state_ends, state_last}
use Rattle.cert_text.specs.Readable.{Readable, IsInner}
use Rattle.cert_text.specs.Machine.{no_items, Text, standing_after, advances, run}
use Rattle.cert_text.proofs.SpellingsTaken.{head_taken, end_taken}
use Rattle.cert_text.proofs.ReadableRuns.{inside, over, lift, advances-append, inner_step, readable_run}

-- whole lines, before the next
abbrev at : Standing → List CertLine → Text
at s ls = record { lines = ls; standing = s; draft = no_items; spot = spot.Start }

abbrev lines_of_text : Option Text → List CertLine
lines_of_text None = []
lines_of_text (Some t) = t.lines

never : (u : Text) {P : Type 0} → None ≡ Some u → P
never u e = absurd cc

-- a line that is taken leads on
led : (g : Grammar) (t u v : Text) (text more : List ℕ) → advances g (Some t) text ≡ Some v → advances g (Some t) (text ++ more) ≡ Some u → advances g (Some v) more ≡ Some u
led g t u v text more h e = sym (ap (λ (o : Option Text). advances g o more) h) ∙ sym (advances-append g (Some t) text more) ∙ e

abbrev Leads : Grammar → Standing → List CertLine → CertLine → Type 0
Leads g s ls l = (more : List ℕ) (u : Text) → advances g (Some (at s ls)) (line_text g l ++ more) ≡ Some u → advances g (Some (at (standing_after l) (ls ++ l ∷ []))) more ≡ Some u

either_refused : (g : Grammar) (t : Text) (has : Bool) (xs ys more : List ℕ) → advances g (Some t) ((xs ++ 10 ∷ []) ++ more) ≡ None
    → advances g (Some t) ((ys ++ 10 ∷ []) ++ more) ≡ None → advances g (Some t) ((cond has xs ys ++ 10 ∷ []) ++ more) ≡ None
either_refused g t true xs ys more p q = p
either_refused g t false xs ys more p q = q

-- a state line where none may stand
state_refused : (g : Grammar) (s : Standing) (ls : List CertLine) (parent job : ℕ) (pairs : List Pair) (ends : List EndOf) (last more : List ℕ)
    → advances g (Some (at s ls)) ((state_last parent job pairs ends last ++ 10 ∷ []) ++ more) ≡ None
    → advances g (Some (at s ls)) ((state_ends parent job pairs ends ++ 10 ∷ []) ++ more) ≡ None
    → advances g (Some (at s ls)) (line_text g (line.State parent job pairs ends last) ++ more) ≡ None
state_refused g s ls parent job pairs ends last more p q =
    either_refused g (at s ls) g.has_last (state_last parent job pairs ends last) (state_ends parent job pairs ends) more p q

first_leads : (g : Grammar) (ls : List CertLine) (l : CertLine) → FitsLine g l → Leads g standing.First ls l
first_leads g ls (line.Head jobs cores) f more u e =
    led g (at standing.First ls) u _ (line_text g (line.Head jobs cores))
    more (lift g (at standing.First ls) (line_text g (line.Head jobs cores)) (line.Head jobs cores) (head_taken g jobs cores f.0 f.1)) e
first_leads g ls (line.Level number count) f more u e = never u e
first_leads g ls (line.Root pairs) f more u e = never u e
first_leads g ls (line.State parent job pairs ends last) f more u e = never u (sym (state_refused g standing.First ls parent job pairs ends last more refl refl) ∙ e)
first_leads g ls (line.Edge from job est lst to) f more u e = never u e
first_leads g ls (line.Job number lo hi mark) f more u e = never u e
first_leads g ls (line.Verdict mark) f more u e = never u e
first_leads g ls line.End f more u e = never u e

inner_leads : (g : Grammar) (ls : List CertLine) (l : CertLine) → IsInner l → FitsLine g l → (more : List ℕ) (u : Text) → advances g (Some (inside ls)) (line_text g l ++ more) ≡ Some u
    → advances g (Some (inside (ls ++ l ∷ []))) more ≡ Some u
inner_leads g ls l i f more u e = led g (inside ls) u (inside (ls ++ l ∷ [])) (line_text g l) more (inner_step g ls l i f) e

inside_leads : (g : Grammar) (ls : List CertLine) (l : CertLine) → FitsLine g l → Leads g standing.Inside ls l
inside_leads g ls (line.Head jobs cores) f more u e = never u e
inside_leads g ls (line.Level number count) f more u e = inner_leads g ls (line.Level number count) tt f more u e
inside_leads g ls (line.Root pairs) f more u e = inner_leads g ls (line.Root pairs) tt f more u e
inside_leads g ls (line.State parent job pairs ends last) f more u e = inner_leads g ls (line.State parent job pairs ends last) tt f more u e
inside_leads g ls (line.Edge from job est lst to) f more u e = inner_leads g ls (line.Edge from job est lst to) tt f more u e
inside_leads g ls (line.Job number lo hi mark) f more u e = inner_leads g ls (line.Job number lo hi mark) tt f more u e
inside_leads g ls (line.Verdict mark) f more u e = inner_leads g ls (line.Verdict mark) tt f more u e
inside_leads g ls line.End f more u e = led g (inside ls) u (over (ls ++ line.End ∷ [])) (line_text g line.End) more (lift g (inside ls) (line_text g line.End) line.End (end_taken g)) e

over_leads : (g : Grammar) (ls : List CertLine) (l : CertLine) → Leads g standing.Over ls l
over_leads g ls (line.Head jobs cores) more u e = never u e
over_leads g ls (line.Level number count) more u e = never u e
over_leads g ls (line.Root pairs) more u e = never u e
over_leads g ls (line.State parent job pairs ends last) more u e = never u (sym (state_refused g standing.Over ls parent job pairs ends last more refl refl) ∙ e)
over_leads g ls (line.Edge from job est lst to) more u e = never u e
over_leads g ls (line.Job number lo hi mark) more u e = never u e
over_leads g ls (line.Verdict mark) more u e = never u e
over_leads g ls line.End more u e = never u e

leads : (g : Grammar) (s : Standing) (ls : List CertLine) (l : CertLine) → FitsLine g l → Leads g s ls l
leads g standing.First ls l f = first_leads g ls l f
leads g standing.Inside ls l f = inside_leads g ls l f
leads g standing.Over ls l f = over_leads g ls l

decode : (g : Grammar) (ms : List CertLine) (s : Standing) (ls : List CertLine) (u : Text) → AllByRecursion (FitsLine g) ms
    → advances g (Some (at s ls)) (flat_map (line_text g) ms) ≡ Some u → u.lines ≡ ls ++ ms
decode g [] s ls u f e = sym (ap lines_of_text e) ∙ sym (append-nil ls)
decode g (m ∷ ms) s ls u f e =
    decode g ms (standing_after m) (ls ++ m ∷ []) u f.1 (leads g s ls m f.0 (flat_map (line_text g) ms) u e) ∙ append_assoc ls (m ∷ []) ms

-- Lines whose spellings are a readable certificate are its lines.
pub spelled_lines : (g : Grammar) (bytes : List ℕ) (ls ms : List CertLine) → Readable g bytes ls → AllByRecursion (FitsLine g) ms → bytes ≡ flat_map (line_text g) ms → Readable g bytes ms
spelled_lines g bytes ls ms r f e =
    let same : ls ≡ ms = decode g ms standing.First [] (over ls) f (sym (ap (run g) e) ∙ readable_run g bytes ls r) in
    subst (λ (ns : List CertLine). Readable g bytes ns) same r
