-- Each spot that the machine keeps leads to the end of some line.
use Rattle.std.proofs.Common.{◌≡◌, ℕ, zero, suc, ◌+◌, ◌-◌, ◌<◌, ◌==◌, Bool, true, false, cond, List, [], ◌∷◌, ◌++◌, length, get_or, drop, refl, ap, ◌∙◌, inl, inr, arith, codes, add-one, drop-cons}
use Rattle.std.proofs.lemmas.Bool.{eq-eqb, ne_eqb}
use Rattle.std.proofs.lemmas.List.{drop_all}
use Rattle.cert_text.specs.declared.line.Mark.{Mark}
use Rattle.cert_text.specs.declared.line.Mark.TheVariants as mark
use Rattle.cert_text.specs.declared.line.CertLine.{CertLine}
use Rattle.cert_text.specs.declared.line.CertLine.TheVariants as line
use Rattle.cert_text.specs.declared.grammar.Grammar.{Grammar}
use Rattle.cert_text.specs.declared.spot.Standing.{Standing}
use Rattle.cert_text.specs.declared.spot.Word.{Word}
use Rattle.cert_text.specs.declared.spot.Word.TheVariants as word
use Rattle.cert_text.specs.declared.spot.NumberAt.{NumberAt}
use Rattle.cert_text.specs.declared.spot.NumberAt.TheVariants as place
use Rattle.cert_text.specs.declared.spot.Marked.{Marked}
use Rattle.cert_text.specs.declared.spot.Spot.{Spot}
use Rattle.cert_text.specs.declared.spot.Spot.TheVariants as spot
use Rattle.cert_text.specs.Spelling.{mark_text}
use Rattle.cert_text.specs.Machine.{Draft, Step, On, Whole, Wrong, is_digit, word_text, after_word, add_pair, add_end, after_ends, marked_line, byte_step, byte_steps}
use Rattle.cert_text.proofs.Digits.{cases_bool, chain}

-- bytes that lead to the end of a line
pub record Completion (g : Grammar) (s : Standing) (now : Step) : Type 0 where
  pub bytes : List ℕ
  pub line : CertLine
  pub led : byte_steps g s now bytes ≡ Whole line

via : (g : Grammar) (s : Standing) (now mid : Step) (text : List ℕ) → byte_steps g s now text ≡ mid → Completion g s mid → Completion g s now
via g s now mid text e h = record { bytes = text ++ h.bytes; line = h.line; led = chain g s now mid (Whole h.line) text h.bytes e h.led }

ends_by : (g : Grammar) (s : Standing) (now : Step) (text : List ℕ) (l : CertLine) → byte_steps g s now text ≡ Whole l → Completion g s now
ends_by g s now text l e = record { bytes = text; line = l; led = e }

-- behind the first bar or an end
closing : (g : Grammar) (s : Standing) (d e : Draft) (p : Spot) (parent job : ℕ)
    → ((b : ℕ) → is_digit b ≡ false → byte_step g s d p b ≡ after_ends g e parent job b) → Completion g s (On d p)
closing g s d e p parent job h =
    let l = line.State parent job e.pairs e.ends e.last in
    elim (cases_bool g.has_last) [
      | inl has ↦
          via g s (On d p) (On e (spot.EndGap parent job)) (32 ∷ []) (h 32 refl ∙ rw has refl)
          (ends_by g s (On e (spot.EndGap parent job)) (124 ∷ 10 ∷ []) l refl)
      | inr lacks ↦ ends_by g s (On d p) (10 ∷ []) l (h 10 refl ∙ rw lacks refl)
    ]

-- behind the first bar
barred : (g : Grammar) (s : Standing) (d : Draft) (parent job : ℕ) → Completion g s (On d (spot.Barred parent job))
barred g s d parent job = closing g s d d (spot.Barred parent job) parent job (λ b h. refl)

end_hi : (g : Grammar) (s : Standing) (d : Draft) (parent job of lo v : ℕ) → Completion g s (On d (spot.Digits (place.EndHi parent job of lo) v))
end_hi g s d parent job of lo v =
    closing g s d (add_end d (record { job = of; lo = lo; hi = v })) (spot.Digits (place.EndHi parent job of lo) v) parent job (λ b h. rw h refl)

digits : (g : Grammar) (s : Standing) (d : Draft) (p : NumberAt) (v : ℕ) → Completion g s (On d (spot.Digits p v))
digits g s d place.HeadJobs v = ends_by g s _ (codes " 0\n") (line.Head v 0) refl
digits g s d (place.HeadCores jobs) v = ends_by g s _ (codes "\n") (line.Head jobs v) refl
digits g s d place.LevelNumber v = ends_by g s _ (codes " 0\n") (line.Level v 0) refl
digits g s d (place.LevelCount number) v = ends_by g s _ (codes "\n") (line.Level number v) refl
digits g s d place.RootLo v = ends_by g s _ (codes ":0\n") (line.Root (d.pairs ++ record { lo = v; hi = 0 } ∷ [])) refl
digits g s d (place.RootHi lo) v = ends_by g s _ (codes "\n") (line.Root (d.pairs ++ record { lo = lo; hi = v } ∷ [])) refl
digits g s d place.StateParent v = via g s _ (On (add_pair d (record { lo = 0; hi = 0 })) (spot.Barred v 0)) (codes " 0 0:0 |") refl (barred g s _ v 0)
digits g s d (place.StateJob parent) v = via g s _ (On (add_pair d (record { lo = 0; hi = 0 })) (spot.Barred parent v)) (codes " 0:0 |") refl (barred g s _ parent v)
digits g s d (place.PairLo parent job) v = via g s _ (On (add_pair d (record { lo = v; hi = 0 })) (spot.Barred parent job)) (codes ":0 |") refl (barred g s _ parent job)
digits g s d (place.PairHi parent job lo) v = via g s _ (On (add_pair d (record { lo = lo; hi = v })) (spot.Barred parent job)) (codes " |") refl (barred g s _ parent job)
digits g s d (place.EndJob parent job) v = via g s _ (On d (spot.Digits (place.EndHi parent job v 0) 0)) (codes ":0:0") refl (end_hi g s d parent job v 0 0)
digits g s d (place.EndLo parent job of) v = via g s _ (On d (spot.Digits (place.EndHi parent job of v) 0)) (codes ":0") refl (end_hi g s d parent job of v 0)
digits g s d (place.EndHi parent job of lo) v = end_hi g s d parent job of lo v
digits g s d (place.LastJob parent job) v = ends_by g s _ (codes "\n") (line.State parent job d.pairs d.ends (d.last ++ v ∷ [])) refl
digits g s d place.EdgeFrom v = ends_by g s _ (codes " 0 0 0 0\n") (line.Edge v 0 0 0 0) refl
digits g s d (place.EdgeJob from) v = ends_by g s _ (codes " 0 0 0\n") (line.Edge from v 0 0 0) refl
digits g s d (place.EdgeEst from job) v = ends_by g s _ (codes " 0 0\n") (line.Edge from job v 0 0) refl
digits g s d (place.EdgeLst from job est) v = ends_by g s _ (codes " 0\n") (line.Edge from job est v 0) refl
digits g s d (place.EdgeTo from job est lst) v = ends_by g s _ (codes "\n") (line.Edge from job est lst v) refl
digits g s d place.JobNumber v = ends_by g s _ (codes " 0 0 ok\n") (line.Job v 0 0 mark.Ok) refl
digits g s d (place.JobLo number) v = ends_by g s _ (codes " 0 ok\n") (line.Job number v 0 mark.Ok) refl
digits g s d (place.JobHi number lo) v = ends_by g s _ (codes " ok\n") (line.Job number lo v mark.Ok) refl

due : (g : Grammar) (s : Standing) (d : Draft) (p : NumberAt) → Completion g s (On d (spot.Due p))
due g s d p = via g s (On d (spot.Due p)) (On d (spot.Digits p 0)) (codes "0") refl (digits g s d p 0)

behind_word : (g : Grammar) (s : Standing) (d : Draft) (w : Word) → Completion g s (after_word d w)
behind_word g s d word.Head = due g s d place.HeadJobs
behind_word g s d word.Level = due g s d place.LevelNumber
behind_word g s d word.Root = due g s d place.RootLo
behind_word g s d word.State = due g s d place.StateParent
behind_word g s d word.Edge = due g s d place.EdgeFrom
behind_word g s d word.Job = due g s d place.JobNumber
behind_word g s d word.Verdict = ends_by g s _ (codes "ok\n") (line.Verdict mark.Ok) refl
behind_word g s d word.End = ends_by g s _ [] line.End refl

same : (b : ℕ) → (b == b) ≡ true
same b = eq-eqb b b refl

word_read : (k : ℕ) (g : Grammar) (s : Standing) (d : Draft) (w : Word) (at : ℕ) → at + suc k ≡ length (word_text g w)
    → byte_steps g s (On d (spot.InWord w at)) (drop at (word_text g w)) ≡ after_word d w
word_read zero g s d w at e =
    let text = word_text g w in
    let c = drop-cons text at 0 (omega (arith, e)) in
    let last : (at + 1 == length text) ≡ true = eq-eqb (at + 1) (length text) (omega (arith, e)) in
    let past : drop (suc at) text ≡ [] = drop_all (suc at) text (omega (arith, e)) in
    ap (λ (t : List ℕ). byte_steps g s (On d (spot.InWord w at)) t) (c ∙ ap (λ (t : List ℕ). get_or text at 0 ∷ t) past)
    ∙ rw (same (get_or text at 0), last) refl
word_read (suc k) g s d w at e =
    let text = word_text g w in
    let c = drop-cons text at 0 (omega (arith, e)) in
    let more : (at + 1 == length text) ≡ false = ne_eqb (at + 1) (length text) (λ x. omega (arith, e, x)) in
    let next = word_read k g s d w (suc at) (omega (arith, e)) in
    ap (λ (t : List ℕ). byte_steps g s (On d (spot.InWord w at)) t) c
    ∙ ap (λ (b : Bool). byte_steps g s (cond b (cond (at + 1 == length text) (after_word d w) (On d (spot.InWord w (at + 1)))) Wrong) (drop (suc at) text)) (same (get_or text at 0))
    ∙ ap (λ (b : Bool). byte_steps g s (cond b (after_word d w) (On d (spot.InWord w (at + 1)))) (drop (suc at) text)) more
    ∙ rw add-one next

mark_ends : (g : Grammar) (s : Standing) (d : Draft) (to : Marked) (m : Mark) (at : ℕ) → at < length (mark_text m) → Completion g s (On d (spot.InMark to m at))
mark_ends g s d to mark.Ok zero lt = ends_by g s _ (codes "ok\n") (marked_line to mark.Ok) refl
mark_ends g s d to mark.Ok (suc zero) lt = ends_by g s _ (codes "k\n") (marked_line to mark.Ok) refl
mark_ends g s d to mark.Ok (suc (suc zero)) lt = ends_by g s _ (codes "\n") (marked_line to mark.Ok) refl
mark_ends g s d to mark.Ok (suc (suc (suc n))) lt = absurd (omega (arith, lt))
mark_ends g s d to mark.Miss zero lt = ends_by g s _ (codes "miss\n") (marked_line to mark.Miss) refl
mark_ends g s d to mark.Miss (suc zero) lt = ends_by g s _ (codes "iss\n") (marked_line to mark.Miss) refl
mark_ends g s d to mark.Miss (suc (suc zero)) lt = ends_by g s _ (codes "ss\n") (marked_line to mark.Miss) refl
mark_ends g s d to mark.Miss (suc (suc (suc zero))) lt = ends_by g s _ (codes "s\n") (marked_line to mark.Miss) refl
mark_ends g s d to mark.Miss (suc (suc (suc (suc zero)))) lt = ends_by g s _ (codes "\n") (marked_line to mark.Miss) refl
mark_ends g s d to mark.Miss (suc (suc (suc (suc (suc n))))) lt = absurd (omega (arith, lt))

word_ends : (g : Grammar) (s : Standing) (d : Draft) (w : Word) (at : ℕ) → at < length (word_text g w) → Completion g s (On d (spot.InWord w at))
word_ends g s d w at lt =
    via g s (On d (spot.InWord w at)) (after_word d w) (drop at (word_text g w)) (word_read (length (word_text g w) - suc at) g s d w at (omega (arith, lt))) (behind_word g s d w)

-- how far a word or a mark may have come
abbrev pub IsWithin : Grammar → Spot → Type 0
IsWithin g (spot.InWord w at) = at < length (word_text g w)
IsWithin g (spot.InMark to m at) = at < length (mark_text m)
IsWithin g spot.Start = ⊥
IsWithin g other = Unit {0}

-- Each spot within a line leads to the end of a line.
pub spot_ends : (g : Grammar) (s : Standing) (d : Draft) (p : Spot) → IsWithin g p → Completion g s (On d p)
spot_ends g s d spot.Start h = absurd h
spot_ends g s d spot.Forked h = ends_by g s _ (codes "nd\n") line.End refl
spot_ends g s d (spot.InWord w at) h = word_ends g s d w at h
spot_ends g s d (spot.Due p) h = due g s d p
spot_ends g s d (spot.Digits p v) h = digits g s d p v
spot_ends g s d (spot.PairGap parent job) h = via g s _ (On d (spot.Barred parent job)) (124 ∷ []) refl (barred g s d parent job)
spot_ends g s d (spot.Barred parent job) h = barred g s d parent job
spot_ends g s d (spot.EndGap parent job) h = ends_by g s _ (124 ∷ 10 ∷ []) (line.State parent job d.pairs d.ends d.last) refl
spot_ends g s d (spot.Closed parent job) h = ends_by g s _ (10 ∷ []) (line.State parent job d.pairs d.ends d.last) refl
spot_ends g s d (spot.MarkDue to) h = ends_by g s _ (codes "ok\n") (marked_line to mark.Ok) refl
spot_ends g s d (spot.InMark to m at) h = mark_ends g s d to m at h
