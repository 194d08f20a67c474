-- What a reader holds is what it has taken: a piece more, a line more, a fault.
use Rattle.std.proofs.Common.{◌≡◌, ℕ, ◌+◌, ◌<◌, ◌≤◌, ◌==◌, Bool, true, false, cond, List, [], ◌∷◌, ◌++◌, length}
use Rattle.std.proofs.Common.{get_or, take, Option, Some, None, Ok, Err, refl, sym, ap, subst, ◌∙◌, append_assoc, arith, length-append, length-take-le}
use Rattle.std.specs.Prelude.{IsTrue}
use Rattle.std.proofs.lemmas.Bool.{ne_eqb}
use Rattle.cert_text.specs.declared.fault.FeedFault.TheVariants as fault
use Rattle.cert_text.specs.declared.line.CertLine.{CertLine}
use Rattle.cert_text.specs.declared.line.CertLine.TheVariants as line
use Rattle.cert_text.specs.declared.spot.Standing.{Standing}
use Rattle.cert_text.specs.declared.spot.Standing.TheVariants as standing
use Rattle.cert_text.specs.declared.spot.Draft.{Draft}
use Rattle.cert_text.specs.declared.spot.Spot.{Spot}
use Rattle.cert_text.specs.declared.spot.Spot.TheVariants as spot
use Rattle.cert_text.specs.declared.grammar.Grammar.{Grammar}
use Rattle.cert_text.specs.Grammar.{IsVersion}
use Rattle.cert_text.specs.Spelling.{line_text, FitsLine}
use Rattle.cert_text.specs.Readable.{IsPrefix}
use Rattle.cert_text.specs.Taken.{HoldsOpen, HoldsFault}
use Rattle.cert_text.specs.Reader.{first_line, StandsInLine, standing_at, is_end, Closes}
use Rattle.cert_text.specs.Machine.{no_items, Step, On, Whole, Wrong, byte_step, byte_steps, Text, standing_after, settle, advances, text_start, run, shown}
use Rattle.cert_text.specs.Kept.{KeptSpot, IsOn}
use Rattle.cert_text.proofs.Digits.{chain}
use Rattle.cert_text.proofs.ShownBytes.{Means}
use Rattle.cert_text.proofs.ReadableRuns.{advances-append, lift, over, readable_run}
use Rattle.cert_text.proofs.Pieces.{one_more}
use Rattle.cert_text.proofs.Prefixes.{Stood, prefix_taken, over_readable}
use Rattle.cert_text.proofs.RunCounts.{RunKept, run_keeps, run_holds, ended_over, over_ended, is_over, over_true}
use Rattle.cert_text.proofs.FirstLines.{wrong_line}
use Rattle.cert_text.proofs.LineLengths.{steps_means, shown_short}

-- ---- runs from a spot

go_on : (g : Grammar) (t : Text) (bytes : List ℕ) (now : Step) (e : Draft) (q : Spot) → byte_steps g t.standing now bytes ≡ On e q
    → advances g (settle t now) bytes ≡ Some (record t { draft = e; spot = q })
go_on g t [] now e q h = ap (settle t) h
go_on g t (b ∷ bs) (On d p) e q h = go_on g (record t { draft = d; spot = p }) bs (byte_step g t.standing d p b) e q h
go_on g t (b ∷ bs) (Whole l) e q h = absurd cc
go_on g t (b ∷ bs) Wrong e q h = absurd cc

run_on : (g : Grammar) (bytes xs : List ℕ) (t : Text) (e : Draft) (q : Spot) → run g bytes ≡ Some t → byte_steps g t.standing (On t.draft t.spot) xs ≡ On e q
    → run g (bytes ++ xs) ≡ Some (record t { draft = e; spot = q })
run_on g bytes xs t e q r h =
    advances-append g (Some text_start) bytes xs ∙ ap (λ (o : Option Text). advances g o xs) r ∙ go_on g t xs (On t.draft t.spot) e q h

pub bool_is : (a b : Bool) → (IsTrue a → IsTrue b) → (IsTrue b → IsTrue a) → a ≡ b
bool_is true true p q = refl
bool_is true false p q = sym (p refl)
bool_is false true p q = q refl
bool_is false false p q = refl

stood_at : (s : Standing) (ls : List CertLine) (p : Spot) → Stood s ls p → s ≡ standing_at (length ls) (is_over s)
stood_at standing.First [] p k = refl
stood_at standing.First (l ∷ ls) p k = let e = k.0 in absurd cc
stood_at standing.Inside [] p k = let e = k.0.are in absurd cc
stood_at standing.Inside (l ∷ ls) p k =
    let some : (length (l ∷ ls) == 0) ≡ false = ne_eqb (length (l ∷ ls)) 0 (λ e. omega (arith, e)) in
    ap (λ (v : Bool). cond v standing.First standing.Inside) (sym some)
stood_at standing.Over ls p k = refl

-- the text of a run
record RunOf (g : Grammar) (bytes : List ℕ) : Type 0 where
  text : Text
  led : run g bytes ≡ Some text

-- the run stands where the reader stands
pub record Agrees (g : Grammar) (bytes : List ℕ) (lines : ℕ) (ended : Bool) (d : Draft) (p : Spot) : Type 0 where
  pub text : Text
  pub led : run g bytes ≡ Some text
  pub keeps : RunKept g text bytes
  pub lines_are : length text.lines ≡ lines
  pub over_is : is_over text.standing ≡ ended
  pub standing_is : text.standing ≡ standing_at lines ended
  pub here : On text.draft text.spot ≡ On d p

end_over : (l : CertLine) → is_over (standing_after l) ≡ is_end l
end_over (line.Head jobs cores) = refl
end_over (line.Level number count) = refl
end_over (line.Root pairs) = refl
end_over (line.State parent job pairs ends last) = refl
end_over (line.Edge from job est lst to) = refl
end_over (line.Job number lo hi mark) = refl
end_over (line.Verdict mark) = refl
end_over line.End = refl

pub record OnAt (now : Step) : Type 0 where
  pub draft : Draft
  pub spot : Spot
  pub is : now ≡ On draft spot

pub on_at : (now : Step) → IsOn now → OnAt now
on_at (On d p) h = record { draft = d; spot = p; is = refl }
on_at (Whole l) h = absurd h
on_at Wrong h = absurd h

module _ {g : Grammar} (v : IsVersion g) where
  -- ---- the run of the bytes that a reader has taken

  run_by : (bytes : List ℕ) (o : Option Text) → run g bytes ≡ o → IsPrefix g bytes → RunOf g bytes
  run_by bytes None e h = absurd (prefix_taken g bytes h e)
  run_by bytes (Some t) e h = record { text = t; led = e }

  pub agree : (bytes : List ℕ) (lines : ℕ) (ended : Bool) (d : Draft) (p : Spot) (at : ℕ) → StandsInLine g lines ended d p at
      → HoldsOpen g bytes lines (shown g d p) ended → Agrees g bytes lines ended d p
  agree bytes lines ended d p at k h =
      let r = run_by bytes (run g bytes) refl h.prefix in
      let t = r.text in
      let keeps = run_keeps g v.some_pairs v.no_lf bytes t r.led in
      let same_lines : length t.lines ≡ lines = sym keeps.count.counted ∙ sym h.counted in
      let same_end : is_over t.standing ≡ ended =
      bool_is (is_over t.standing) ended
      (λ o. h.end.1 (over_ended g t bytes keeps.text (over_true t.standing o)))
      (λ o. ap is_over (ended_over g v.some_pairs v.no_lf bytes t r.led (h.end.0 o))) in
      let stands : t.standing ≡ standing_at lines ended =
      stood_at t.standing t.lines t.spot keeps.text.stood
      ∙ ap (λ (n : ℕ). standing_at n (is_over t.standing)) same_lines ∙ ap (standing_at lines) same_end in
      let rest : shown g t.draft t.spot ≡ shown g d p = sym keeps.count.rest ∙ sym h.rest_is in
      record {
        text = t;
        led = r.led;
        keeps = keeps;
        lines_are = same_lines;
        over_is = same_end;
        standing_is = stands;
        here =
            sym keeps.count.traced
            ∙ ap (λ (bs : List ℕ). byte_steps g t.standing (On no_items spot.Start) bs) rest
            ∙ ap (λ (s : Standing). byte_steps g s (On no_items spot.Start) (shown g d p)) stands
            ∙ k.traced;
      }

  -- steps from where the reader stands are steps of the run
  run_steps : (bytes : List ℕ) (lines : ℕ) (ended : Bool) (d : Draft) (p : Spot) (a : Agrees g bytes lines ended d p) (xs : List ℕ) (now : Step)
      → byte_steps g (standing_at lines ended) (On d p) xs ≡ now → byte_steps g a.text.standing (On a.text.draft a.text.spot) xs ≡ now
  run_steps bytes lines ended d p a xs now h =
      ap (λ (s : Standing). byte_steps g s (On a.text.draft a.text.spot) xs) a.standing_is
      ∙ ap (λ (n : Step). byte_steps g (standing_at lines ended) n xs) a.here ∙ h

  -- ---- within a line

  pub holds_on : (bytes xs : List ℕ) (lines : ℕ) (ended : Bool) (d e : Draft) (p q : Spot) → Agrees g bytes lines ended d p
      → byte_steps g (standing_at lines ended) (On d p) xs ≡ On e q → HoldsOpen g (bytes ++ xs) lines (shown g e q) ended
  holds_on bytes xs lines ended d e p q a h =
      let t = a.text in
      let r = run_on g bytes xs t e q a.led (run_steps bytes lines ended d p a xs (On e q) h) in
      let o = run_holds g v.some_pairs v.no_lf (bytes ++ xs) (record t { draft = e; spot = q }) r in
      let P : ℕ → Bool → Type 0 = λ n v. HoldsOpen g (bytes ++ xs) n (shown g e q) v in
      subst (λ (n : ℕ). P n ended) a.lines_are (subst (λ (v : Bool). P (length t.lines) v) a.over_is o)

  -- what the spot shows after more bytes of the line
  pub shows_more : (d e : Draft) (p q : Spot) (s : Standing) (xs : List ℕ) → KeptSpot g d p → byte_steps g s (On d p) xs ≡ On e q
      → (shown g e q ≡ shown g d p ++ xs) × KeptSpot g e q
  shows_more d e p q s xs k h =
      subst (λ (now : Step). Means g (shown g d p ++ xs) now) h (steps_means g v.some_pairs s xs (On d p) (shown g d p) (refl, k))

  pub stands_on : (xs : List ℕ) (lines : ℕ) (ended : Bool) (d e : Draft) (p q : Spot) (at : ℕ) → StandsInLine g lines ended d p at
      → byte_steps g (standing_at lines ended) (On d p) xs ≡ On e q → StandsInLine g lines ended e q (at + length xs)
  stands_on xs lines ended d e p q at k h =
      let s = standing_at lines ended in
      let m = shows_more d e p q s xs k.kept h in
      record {
        kept = m.1;
        traced =
            ap (λ (bs : List ℕ). byte_steps g s (On no_items spot.Start) bs) m.0
            ∙ chain g s (On no_items spot.Start) (On d p) (On e q) (shown g d p) xs k.traced h;
        at_is = omega (arith, k.at_is, ap (λ (bs : List ℕ). length bs) m.0, length-append (shown g d p) xs);
      }

  pub stands_short : (lines : ℕ) (ended : Bool) (d : Draft) (p : Spot) (at : ℕ) → StandsInLine g lines ended d p at → at ≤ 2000000
  stands_short lines ended d p at k = omega (arith, k.at_is, shown_short v d p k.kept)

  pub stands_start : (lines : ℕ) (ended : Bool) → StandsInLine g lines ended no_items spot.Start 0
  stands_start lines ended = record { kept = refl; traced = refl; at_is = refl }

  -- ---- a whole line

  pub holds_whole : (bytes xs : List ℕ) (lines : ℕ) (ended : Bool) (d : Draft) (p : Spot) (l : CertLine) → Agrees g bytes lines ended d p
      → byte_steps g (standing_at lines ended) (On d p) xs ≡ Whole l → HoldsOpen g (bytes ++ xs) (lines + 1) [] (is_end l)
  holds_whole bytes xs lines ended d p l a h =
      let t = a.text in
      let u : Text = record { lines = t.lines ++ l ∷ []; standing = standing_after l; draft = no_items; spot = spot.Start } in
      let r : run g (bytes ++ xs) ≡ Some u =
      advances-append g (Some text_start) bytes xs ∙ ap (λ (o : Option Text). advances g o xs) a.led
      ∙ lift g t xs l (run_steps bytes lines ended d p a xs (Whole l) h) in
      let o = run_holds g v.some_pairs v.no_lf (bytes ++ xs) u r in
      let n : length (t.lines ++ l ∷ []) ≡ lines + 1 = omega (arith, a.lines_are, length-append t.lines (l ∷ [])) in
      let P : ℕ → Bool → Type 0 = λ k v. HoldsOpen g (bytes ++ xs) k [] v in
      subst (λ (k : ℕ). P k (is_end l)) n (subst (λ (v : Bool). P (length (t.lines ++ l ∷ [])) v) (end_over l) o)

  pub line_shown : (d : Draft) (p : Spot) (s : Standing) (xs : List ℕ) (l : CertLine) → KeptSpot g d p → byte_steps g s (On d p) xs ≡ Whole l
      → (line_text g l ≡ shown g d p ++ xs) × FitsLine g l
  line_shown d p s xs l k h =
      subst (λ (now : Step). Means g (shown g d p ++ xs) now) h (steps_means g v.some_pairs s xs (On d p) (shown g d p) (refl, k))

  -- ---- a fault

  pub holds_fault : (bytes piece : List ℕ) (i lines : ℕ) (ended : Bool) (d : Draft) (p : Spot) (at : ℕ) → StandsInLine g lines ended d p at → Agrees g bytes lines ended d p
      → i < length piece → IsOn (byte_steps g (standing_at lines ended) (On d p) (take i piece))
      → byte_steps g (standing_at lines ended) (On d p) (take (i + 1) piece) ≡ Wrong
      → HoldsFault g (bytes ++ first_line piece) (lines + 1) (at + i + 1)
  holds_fault bytes piece i lines ended d p at k a lt on wrong =
      let s = standing_at lines ended in
      let xs = take i piece in
      let bad = get_or piece i 0 in
      let o = on_at (byte_steps g s (On d p) xs) on in
      let front = bytes ++ xs in
      let held = holds_on bytes xs lines ended d o.draft p o.spot a o.is in
      let line = wrong_line g v.some_pairs v.no_lf s piece i d p k.kept on lt in
      let m = shows_more d o.draft p o.spot s xs k.kept o.is in
      let u : Text = record a.text { draft = o.draft; spot = o.spot } in
      let led : run g front ≡ Some u = run_on g bytes xs a.text o.draft o.spot a.led (run_steps bytes lines ended d p a xs (On o.draft o.spot) o.is) in
      let next : byte_step g s o.draft o.spot bad ≡ Wrong =
      sym (one_more g s (On d p) piece i o.draft o.spot (byte_step g s o.draft o.spot bad) lt o.is refl) ∙ wrong in
      let none : run g (front ++ bad ∷ []) ≡ None =
      advances-append g (Some text_start) front (bad ∷ [])
      ∙ ap (λ (r : Option Text). advances g r (bad ∷ [])) led
      ∙ ap (settle u) (ap (λ (x : Standing). byte_step g x o.draft o.spot bad) a.standing_is ∙ next) in
      record {
        front = front;
        bad = bad;
        more = line.more;
        are = ap (λ (bs : List ℕ). bytes ++ bs) line.are ∙ sym (append_assoc bytes xs (bad ∷ line.more));
        prefix = held.prefix;
        first = λ q. prefix_taken g (front ++ bad ∷ []) q none;
        at_line = ap (λ (n : ℕ). n + 1) held.counted;
        at_byte =
            omega (
              arith,
              k.at_is,
              lt,
              ap (λ (bs : List ℕ). length bs) (sym held.rest_is),
              ap (λ (bs : List ℕ). length bs) m.0,
              length-append (shown g d p) xs,
              length-take-le i piece (omega (arith, lt)),
            );
      }

  -- ---- the end

  pub closes : (bytes : List ℕ) (lines : ℕ) (ended : Bool) (d : Draft) (p : Spot) (at : ℕ) → StandsInLine g lines ended d p at → HoldsOpen g bytes lines (shown g d p) ended
      → Closes g bytes (cond ended (Ok tt) (Err (fault.Text (lines + 1) (at + 1))))
  closes bytes lines true d p at k h =
      let a = agree bytes lines true d p at k h in
      (a.text.lines, over_readable g a.text bytes (over_true a.text.standing a.over_is) a.keeps.text)
  closes bytes lines false d p at k h =
      let a = agree bytes lines false d p at k h in
      record {
        prefix = h.prefix;
        short = λ r.
            let o = readable_run g bytes r.0 r.1 in
            let over_now : Some a.text ≡ Some (over r.0) = sym a.led ∙ o in
            let end = ap (λ (t : Option Text). elim t [ None ↦ true | Some u ↦ is_over u.standing ]) over_now in
            let w : false ≡ true = sym a.over_is ∙ end in absurd cc;
        at_line = ap (λ (n : ℕ). n + 1) h.counted;
        at_byte = omega (arith, k.at_is, ap (λ (bs : List ℕ). length bs) h.rest_is);
      }
