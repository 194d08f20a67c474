-- What the machine takes of a piece is its first line.
use Rattle.std.proofs.Common.{◌≡◌, ℕ, zero, suc, ◌+◌, ◌<◌, ◌==◌, Bool, true, false, cond, List, [], ◌∷◌, ◌++◌, length, get_or, take, refl, sym, ap, subst, ◌∙◌, arith, zero-add}
use Rattle.std.specs.Prelude.{count_by}
use Rattle.std.proofs.lemmas.List.Sums.{sum_by-append}
use Rattle.cert_text.specs.declared.line.CertLine.{CertLine}
use Rattle.cert_text.specs.declared.grammar.Grammar.{Grammar}
use Rattle.cert_text.specs.declared.spot.Standing.{Standing}
use Rattle.cert_text.specs.declared.spot.Draft.{Draft}
use Rattle.cert_text.specs.declared.spot.Spot.{Spot}
use Rattle.cert_text.specs.Taken.{is_lf}
use Rattle.cert_text.specs.Reader.{first_line}
use Rattle.cert_text.specs.Machine.{Step, On, Whole, Wrong, byte_step, byte_steps, shown}
use Rattle.cert_text.specs.Kept.{KeptSpot, IsOn}
use Rattle.cert_text.proofs.Digits.{stuck}
use Rattle.cert_text.proofs.ShownBytes.{Means, step_means}
use Rattle.cert_text.proofs.LineEnds.{ByLf, step_lf}

-- a byte that is no LF, before others
count_front : (b : ℕ) (bs : List ℕ) → (b == 10) ≡ false → count_by is_lf (b ∷ bs) ≡ count_by is_lf bs
count_front b bs e =
    sum_by-append (λ (x : ℕ). cond (is_lf x) 1 0) (b ∷ []) bs
    ∙ ap (λ (v : Bool). 0 + cond v 1 0 + count_by is_lf bs) e ∙ zero-add (count_by is_lf bs)

line_front : (b : ℕ) (bs : List ℕ) → (b == 10) ≡ false → first_line (b ∷ bs) ≡ b ∷ first_line bs
line_front b bs e = ap (λ (v : Bool). cond v (b ∷ []) (b ∷ first_line bs)) e

-- a piece without an LF
pub record NoLf (piece : List ℕ) : Type 0 where
  pub line : first_line piece ≡ piece
  pub count : count_by is_lf piece ≡ 0

no_lf_front : (b : ℕ) (bs : List ℕ) → (b == 10) ≡ false → NoLf bs → NoLf (b ∷ bs)
no_lf_front b bs e n = record { line = line_front b bs e ∙ ap (λ (t : List ℕ). b ∷ t) n.line; count = count_front b bs e ∙ n.count }

-- what the machine knows of a step within a line
abbrev Knows : Grammar → Step → Type 0
Knows g (On d p) = KeptSpot g d p
Knows g other = Unit {0}

knows : (g : Grammar) (text : List ℕ) (now : Step) → Means g text now → Knows g now
knows g text (On d p) m = m.1
knows g text (Whole l) m = tt
knows g text Wrong m = tt

step_knows : (g : Grammar) (room : 0 < g.most_pairs) (s : Standing) (d : Draft) (p : Spot) (b : ℕ) → KeptSpot g d p → Knows g (byte_step g s d p b)
step_knows g room s d p b k = knows g (shown g d p ++ b ∷ []) (byte_step g s d p b) (step_means g room s d p b k)

on_front : (g : Grammar) (s : Standing) (b : ℕ) (bs : List ℕ) (now : Step) (e : Draft) (q : Spot)
    → ((d : Draft) (p : Spot) → KeptSpot g d p → byte_steps g s (On d p) bs ≡ On e q → NoLf bs)
    → Knows g now → ByLf b now → byte_steps g s now bs ≡ On e q → NoLf (b ∷ bs)
on_front g s b bs (On d p) e q rest k lf h = no_lf_front b bs lf (rest d p k h)
on_front g s b [] (Whole l) e q rest k lf h = absurd cc
on_front g s b (c ∷ cs) (Whole l) e q rest k lf h = absurd cc
on_front g s b bs Wrong e q rest k lf h = let w = sym (stuck g s bs) ∙ h in absurd cc

-- a piece behind which the line goes on has no LF
pub still_on : (g : Grammar) (room : 0 < g.most_pairs) (v : (g.version == 10) ≡ false) (s : Standing) (bs : List ℕ) (d e : Draft) (p q : Spot)
    → KeptSpot g d p → byte_steps g s (On d p) bs ≡ On e q → NoLf bs
still_on g room v s [] d e p q k h = record { line = refl; count = refl }
still_on g room v s (b ∷ bs) d e p q k h =
    on_front g s b bs (byte_step g s d p b) e q (λ d' p' k' h'. still_on g room v s bs d' e p' q k' h') (step_knows g room s d p b k) (step_lf g v s d p b k) h

whole_ends : (g : Grammar) (s : Standing) (l m : CertLine) (xs : List ℕ) → byte_steps g s (Whole l) xs ≡ Whole m → xs ≡ []
whole_ends g s l m [] h = refl
whole_ends g s l m (b ∷ bs) h = absurd cc

line_back : (b : ℕ) (bs : List ℕ) → (b == 10) ≡ true → first_line (b ∷ bs) ≡ b ∷ []
line_back b bs e = ap (λ (v : Bool). cond v (b ∷ []) (b ∷ first_line bs)) e

whole_front : (g : Grammar) (s : Standing) (b : ℕ) (bs : List ℕ) (k : ℕ) (now : Step) (l : CertLine)
    → ((d : Draft) (p : Spot) → KeptSpot g d p → byte_steps g s (On d p) (take k bs) ≡ Whole l → first_line bs ≡ take k bs)
    → Knows g now → ByLf b now → byte_steps g s now (take k bs) ≡ Whole l → first_line (b ∷ bs) ≡ b ∷ take k bs
whole_front g s b bs k (On d p) l rest kept lf h = line_front b bs lf ∙ ap (λ (t : List ℕ). b ∷ t) (rest d p kept h)
whole_front g s b bs k (Whole m) l rest kept lf h = line_back b bs lf ∙ ap (λ (t : List ℕ). b ∷ t) (sym (whole_ends g s m l (take k bs) h))
whole_front g s b bs k Wrong l rest kept lf h = let w = sym (stuck g s (take k bs)) ∙ h in absurd cc

-- bytes that end a line are the piece's first line
pub whole_line : (g : Grammar) (room : 0 < g.most_pairs) (v : (g.version == 10) ≡ false) (s : Standing) (piece : List ℕ) (n : ℕ) (d : Draft) (p : Spot) (l : CertLine)
    → KeptSpot g d p → byte_steps g s (On d p) (take n piece) ≡ Whole l → first_line piece ≡ take n piece
whole_line g room v s [] zero d p l k h = refl
whole_line g room v s [] (suc n) d p l k h = refl
whole_line g room v s (b ∷ bs) zero d p l k h = absurd cc
whole_line g room v s (b ∷ bs) (suc n) d p l k h =
    whole_front g s b bs n (byte_step g s d p b) l (λ d' p' k' h'. whole_line g room v s bs n d' p' l k' h') (step_knows g room s d p b k) (step_lf g v s d p b k) h

-- the first line of a piece goes on behind its first i bytes
pub record Behind (piece : List ℕ) (i : ℕ) : Type 0 where
  pub more : List ℕ
  pub are : first_line piece ≡ take i piece ++ get_or piece i 0 ∷ more

some_line : (b : ℕ) (bs : List ℕ) (v : Bool) → (b == 10) ≡ v → Behind (b ∷ bs) 0
some_line b bs true e = record { more = []; are = line_back b bs e }
some_line b bs false e = record { more = first_line bs; are = line_front b bs e }

behind_front : (g : Grammar) (s : Standing) (b : ℕ) (bs : List ℕ) (k : ℕ) (now : Step)
    → ((d : Draft) (p : Spot) → KeptSpot g d p → IsOn (byte_steps g s (On d p) (take k bs)) → Behind bs k)
    → Knows g now → ByLf b now → IsOn (byte_steps g s now (take k bs)) → k < length bs → Behind (b ∷ bs) (suc k)
behind_front g s b bs k (On d p) rest kept lf h lt =
    let r = rest d p kept h in
    record { more = r.more; are = line_front b bs lf ∙ ap (λ (t : List ℕ). b ∷ t) r.are }
behind_front g s b [] k (Whole m) rest kept lf h lt = absurd (omega (arith, lt))
behind_front g s b (c ∷ cs) zero (Whole m) rest kept lf h lt = absurd h
behind_front g s b (c ∷ cs) (suc k) (Whole m) rest kept lf h lt = absurd h
behind_front g s b bs k Wrong rest kept lf h lt = absurd (subst IsOn (stuck g s (take k bs)) h)

-- where the line still goes on behind i bytes, the next byte is of the first line
pub wrong_line : (g : Grammar) (room : 0 < g.most_pairs) (v : (g.version == 10) ≡ false) (s : Standing) (piece : List ℕ) (i : ℕ) (d : Draft) (p : Spot)
    → KeptSpot g d p → IsOn (byte_steps g s (On d p) (take i piece)) → i < length piece → Behind piece i
wrong_line g room v s [] i d p k h lt = absurd (omega (arith, lt))
wrong_line g room v s (b ∷ bs) zero d p k h lt = some_line b bs (b == 10) refl
wrong_line g room v s (b ∷ bs) (suc i) d p k h lt =
    let less : i < length bs = omega (arith, lt) in
    behind_front g s b bs i (byte_step g s d p b) (λ d' p' k' h'. wrong_line g room v s bs i d' p' k' h' less) (step_knows g room s d p b k) (step_lf g v s d p b k) h less
