-- What a line has shown so far is short.
use Rattle.std.proofs.Common.{ℕ, Bool, true, false, cond, ◌*◌, ◌<◌, ◌≤◌, List, [], ◌∷◌, ◌++◌, length, refl, sym, ap, subst, arith, length-append, append_assoc, append-nil, lit<, lit≤}
use Rattle.std.specs.Prelude.{decimal}
use Rattle.std.specs.List.{flat_map, AllByRecursion}
use Rattle.std.proofs.lemmas.Fmt.{length-decimal-le}
use Rattle.cert_text.specs.declared.line.Pair.{Pair}
use Rattle.cert_text.specs.declared.line.EndOf.{EndOf}
use Rattle.cert_text.specs.declared.line.Mark.TheVariants as mark
use Rattle.cert_text.specs.declared.line.CertLine.{CertLine}
use Rattle.cert_text.specs.declared.line.CertLine.TheVariants as line
use Rattle.cert_text.specs.declared.grammar.Grammar.{Grammar}
use Rattle.cert_text.specs.declared.spot.Standing.{Standing}
use Rattle.cert_text.specs.declared.spot.Standing.TheVariants as standing
use Rattle.cert_text.specs.declared.spot.Draft.{Draft}
use Rattle.cert_text.specs.declared.spot.Spot.{Spot}
use Rattle.cert_text.specs.declared.spot.Spot.TheVariants as spot
use Rattle.cert_text.specs.Grammar.{IsCertNumber, IsVersion}
use Rattle.cert_text.specs.Spelling.{FitsPair, FitsEnd, FitsState, FitsLine, line_text, pair_item_text, end_item_text, last_item_text, state_ends, state_last, state_line_text}
use Rattle.cert_text.specs.Machine.{Step, On, Whole, Wrong, byte_step, byte_steps, shown}
use Rattle.cert_text.specs.Kept.{KeptSpot}
use Rattle.cert_text.proofs.ShownBytes.{Means, step_means}
use Rattle.cert_text.proofs.LineCompletions.{Completion, spot_ends}

-- What bytes lead to shows them behind what was shown before.
pub steps_means : (g : Grammar) (room : 0 < g.most_pairs) (s : Standing) (xs : List ℕ) (now : Step) (text : List ℕ) → Means g text now → Means g (text ++ xs) (byte_steps g s now xs)
steps_means g room s [] now text m = subst (λ (t : List ℕ). Means g t now) (sym (append-nil text)) m
steps_means g room s (b ∷ bs) (On d p) text m =
    let next = byte_step g s d p b in
    let one : Means g (text ++ b ∷ []) next = subst (λ (t : List ℕ). Means g (t ++ b ∷ []) next) m.0 (step_means g room s d p b m.1) in
    subst (λ (t : List ℕ). Means g t (byte_steps g s next bs)) (append_assoc text (b ∷ []) bs) (steps_means g room s bs next (text ++ b ∷ []) one)
steps_means g room s (b ∷ bs) (Whole l) text m = tt
steps_means g room s (b ∷ bs) Wrong text m = tt

-- ---- lengths

short : (n : ℕ) → IsCertNumber n → length (decimal n) ≤ 19
short n f = length-decimal-le 19 n (lit< tt) (omega (arith, f)) (omega (arith, f))

pair_short : (p : Pair) → FitsPair p → length (pair_item_text p) ≤ 40
pair_short p f = simp length-append (omega (arith, short p.lo f.0, short p.hi f.1))

end_short : (e : EndOf) → FitsEnd e → length (end_item_text e) ≤ 60
end_short e f = simp length-append (omega (arith, short e.job f.0, short e.lo f.1, short e.hi f.2))

pairs_short : (ps : List Pair) → AllByRecursion FitsPair ps → length (flat_map pair_item_text ps) ≤ 40 * length ps
pairs_short [] f = omega arith
pairs_short (p ∷ ps) f = omega (arith, length-append (pair_item_text p) (flat_map pair_item_text ps), pair_short p f.0, pairs_short ps f.1)

ends_short : (es : List EndOf) → AllByRecursion FitsEnd es → length (flat_map end_item_text es) ≤ 60 * length es
ends_short [] f = omega arith
ends_short (e ∷ es) f = omega (arith, length-append (end_item_text e) (flat_map end_item_text es), end_short e f.0, ends_short es f.1)

last_short : (ns : List ℕ) → AllByRecursion IsCertNumber ns → length (flat_map last_item_text ns) ≤ 20 * length ns
last_short [] f = omega arith
last_short (n ∷ ns) f =
    omega (arith, length-append (last_item_text n) (flat_map last_item_text ns), length-append (32 ∷ []) (decimal n), short n f.0, last_short ns f.1)

either_short : (xs ys : List ℕ) (has : Bool) → length xs ≤ 1500000 → length ys ≤ 1500000 → length (cond has xs ys) ≤ 1500000
either_short xs ys true p q = p
either_short xs ys false p q = q

module _ {g : Grammar} (v : IsVersion g) where
  ends_part_short : (parent job : ℕ) (pairs : List Pair) (ends : List EndOf) (last : List ℕ) → FitsState g parent job pairs ends last
      → length (state_ends parent job pairs ends) ≤ 1000000
  ends_part_short parent job pairs ends last f =
      simp length-append (
      omega (
        arith,
        short parent f.fit_parent,
        short job f.fit_job,
        pairs_short pairs f.fit_pairs.each,
        f.fit_pairs.few,
        ends_short ends f.each_end,
        f.few_ends,
        v.few_pairs,
        v.few_items,
      )
      )

  last_few : (last : List ℕ) (has : Bool) → length last ≤ cond has g.most_items 0 → length last ≤ g.most_items
  last_few last true few = few
  last_few last false few = omega (arith, few)

  state_short : (parent job : ℕ) (pairs : List Pair) (ends : List EndOf) (last : List ℕ) → FitsState g parent job pairs ends last
      → length (state_line_text g parent job pairs ends last) ≤ 1500000
  state_short parent job pairs ends last f =
      let front = ends_part_short parent job pairs ends last f in
      let few = last_few last g.has_last f.few_last in
      let whole : length (state_last parent job pairs ends last) ≤ 1500000 =
      omega (
        arith,
        front,
        length-append (state_ends parent job pairs ends ++ 32 ∷ [] ++ 124 ∷ []) (flat_map last_item_text last),
        length-append (state_ends parent job pairs ends ++ 32 ∷ []) (124 ∷ []),
        length-append (state_ends parent job pairs ends) (32 ∷ []),
        last_short last f.each_last,
        few,
        v.few_items,
      ) in
      either_short (state_last parent job pairs ends last) (state_ends parent job pairs ends) g.has_last whole (omega (arith, front))

  line_short : (l : CertLine) → FitsLine g l → length (line_text g l) ≤ 2000000
  line_short (line.Head jobs cores) f = simp length-append (omega (arith, short jobs f.0, short cores f.1))
  line_short (line.Level number count) f = simp length-append (omega (arith, short number f.0, short count f.1))
  line_short (line.Root pairs) f = simp length-append (omega (arith, pairs_short pairs f.each, f.few, v.few_pairs))
  line_short (line.State parent job pairs ends last) f =
      omega (arith, length-append (state_line_text g parent job pairs ends last) (10 ∷ []), state_short parent job pairs ends last f)
  line_short (line.Edge from job est lst to) f = simp length-append (omega (arith, short from f.0, short job f.1, short est f.2, short lst f.3, short to f.4))
  line_short (line.Job number lo hi mark.Ok) f = simp length-append (omega (arith, short number f.0, short lo f.1, short hi f.2))
  line_short (line.Job number lo hi mark.Miss) f = simp length-append (omega (arith, short number f.0, short lo f.1, short hi f.2))
  line_short (line.Verdict mark.Ok) f = lit≤ tt
  line_short (line.Verdict mark.Miss) f = lit≤ tt
  line_short line.End f = lit≤ tt

  within_short : (d : Draft) (p : Spot) → KeptSpot g d p → Completion g standing.Inside (On d p) → length (shown g d p) ≤ 2000000
  within_short d p k e =
      let text = shown g d p in
      let m = subst (λ (now : Step). Means g (text ++ e.bytes) now) e.led (steps_means g v.some_pairs standing.Inside e.bytes (On d p) text (refl, k)) in
      omega (arith, line_short e.line m.1, ap (λ (t : List ℕ). length t) m.0, length-append text e.bytes)

  -- What a kept spot shows is short.
  pub shown_short : (d : Draft) (p : Spot) → KeptSpot g d p → length (shown g d p) ≤ 2000000
  shown_short d spot.Start k = lit≤ tt
  shown_short d spot.Forked k = lit≤ tt
  shown_short d (spot.InWord w at) k = within_short d (spot.InWord w at) k (spot_ends g standing.Inside d (spot.InWord w at) k.1)
  shown_short d (spot.Due q) k = within_short d (spot.Due q) k (spot_ends g standing.Inside d (spot.Due q) tt)
  shown_short d (spot.Digits q v) k = within_short d (spot.Digits q v) k (spot_ends g standing.Inside d (spot.Digits q v) tt)
  shown_short d (spot.PairGap a b) k = within_short d (spot.PairGap a b) k (spot_ends g standing.Inside d (spot.PairGap a b) tt)
  shown_short d (spot.Barred a b) k = within_short d (spot.Barred a b) k (spot_ends g standing.Inside d (spot.Barred a b) tt)
  shown_short d (spot.EndGap a b) k = within_short d (spot.EndGap a b) k (spot_ends g standing.Inside d (spot.EndGap a b) tt)
  shown_short d (spot.Closed a b) k = within_short d (spot.Closed a b) k (spot_ends g standing.Inside d (spot.Closed a b) tt)
  shown_short d (spot.MarkDue to) k = within_short d (spot.MarkDue to) k (spot_ends g standing.Inside d (spot.MarkDue to) tt)
  shown_short d (spot.InMark to m at) k = within_short d (spot.InMark to m at) k (spot_ends g standing.Inside d (spot.InMark to m at) k.1)
