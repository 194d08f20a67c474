-- The records of a text: of two beginnings one is the front of the other, and all the records are one list.
use Rattle.std.proofs.Common.{◌≡◌, ◌≤◌, ◌++◌, ◌∷◌, ◌∙◌, [], List, ℕ, Some, None, length, arith, refl, sym, ap, ap₂, subst}
use Rattle.csv.specs.Machine.{Read, next_record}
use Rattle.csv.specs.Reading.{Reached}
use Rattle.csv.specs.declared.parser.Config.{Config}
use Rattle.csv.specs.declared.parser.State.{State}
use Rattle.csv_numbers.specs.Rows.{Record}

-- the first records of a text stand at the front of all of them
pub reached-front : (cfg : Config) (s s2 s3 : State) (xs ys zs : List ℕ) (front all : List Record) → Reached cfg s xs front s2 ys → Reached cfg s xs all s3 zs
    → next_record cfg s3 [] [] zs ≡ None → (tail : List Record) × (all ≡ front ++ tail)
unfolding Reached
reached-front cfg s s2 s3 xs ys zs [] all h a end = (all, refl)
reached-front cfg s s2 s3 xs ys zs (r ∷ front) [] h a end =
    let none : next_record cfg s [] [] xs ≡ None = rw (a.0, a.1) end in
    let both : Some h.0 ≡ None = sym h.1 ∙ none in cc both
reached-front cfg s s2 s3 xs ys zs (r ∷ front) (q ∷ all) h a end =
    let both : Some h.0 ≡ Some a.0 = sym h.1 ∙ a.1 in
    let one : h.0 ≡ a.0 = cc both in
    let same : r ≡ q = h.2 ∙ ap (λ (p : Read). p.0) one ∙ sym a.2 in
    let rest = subst (λ (p : Read). Reached cfg p.1 p.2 front s2 ys) one h.3 in
    let next = reached-front cfg a.0.1 s2 s3 a.0.2 ys zs front all rest a.3 end in
    (next.0, ap (λ (h : Record). h ∷ all) (sym same) ∙ ap (λ (l : List Record). r ∷ l) next.1)

-- of two beginnings of a text the shorter is the front of the longer
pub begins-front : (cfg : Config) (s s2 s3 : State) (xs ys zs : List ℕ) (one two : List Record) → Reached cfg s xs one s2 ys → Reached cfg s xs two s3 zs
    → length one ≤ length two → (tail : List Record) × (two ≡ one ++ tail)
unfolding Reached
begins-front cfg s s2 s3 xs ys zs [] two h a le = (two, refl)
begins-front cfg s s2 s3 xs ys zs (r ∷ one) [] h a le = absurd (omega (arith, le))
begins-front cfg s s2 s3 xs ys zs (r ∷ one) (q ∷ two) h a le =
    let both : Some h.0 ≡ Some a.0 = sym h.1 ∙ a.1 in
    let step : h.0 ≡ a.0 = cc both in
    let same : r ≡ q = h.2 ∙ ap (λ (p : Read). p.0) step ∙ sym a.2 in
    let rest = subst (λ (p : Read). Reached cfg p.1 p.2 one s2 ys) step h.3 in
    let next = begins-front cfg a.0.1 s2 s3 a.0.2 ys zs one two rest a.3 (omega (arith, le)) in
    (next.0, ap₂ (λ (x : Record) (l : List Record). x ∷ l) (sym same) next.1)

-- all the records of a text are one list
pub reached-same : (cfg : Config) (s s2 s3 : State) (xs ys zs : List ℕ) (one two : List Record) → Reached cfg s xs one s2 ys → next_record cfg s2 [] [] ys ≡ None
    → Reached cfg s xs two s3 zs → next_record cfg s3 [] [] zs ≡ None → one ≡ two
unfolding Reached
reached-same cfg s s2 s3 xs ys zs [] [] h end a end2 = refl
reached-same cfg s s2 s3 xs ys zs [] (q ∷ two) h end a end2 =
    let none : next_record cfg s [] [] xs ≡ None = rw (h.0, h.1) end in
    let both : Some a.0 ≡ None = sym a.1 ∙ none in cc both
reached-same cfg s s2 s3 xs ys zs (r ∷ one) [] h end a end2 =
    let none : next_record cfg s [] [] xs ≡ None = rw (a.0, a.1) end2 in
    let both : Some h.0 ≡ None = sym h.1 ∙ none in cc both
reached-same cfg s s2 s3 xs ys zs (r ∷ one) (q ∷ two) h end a end2 =
    let both : Some h.0 ≡ Some a.0 = sym h.1 ∙ a.1 in
    let step : h.0 ≡ a.0 = cc both in
    let same : r ≡ q = h.2 ∙ ap (λ (p : Read). p.0) step ∙ sym a.2 in
    let rest = subst (λ (p : Read). Reached cfg p.1 p.2 one s2 ys) step h.3 in
    ap₂ (λ (x : Record) (l : List Record). x ∷ l) same (reached-same cfg a.0.1 s2 s3 a.0.2 ys zs one two rest end a.3 end2)
