-- A line ends with its LF, and has none before.
use Rattle.std.proofs.Common.{◌≡◌, ℕ, zero, suc, ◌+◌, ◌-◌, ◌*◌, ◌<◌, ◌==◌, nat_le, nat_lt, Bool, true, false, cond, List, [], ◌∷◌, length, get_or, refl, sym, ap, subst, ◌∙◌, arith, codes}
use Rattle.std.proofs.lemmas.Bool.{eqb-true, eqb-false, eq-eqb, ne_eqb}
use Rattle.cert_text.specs.declared.line.Mark.{Mark}
use Rattle.cert_text.specs.declared.line.Mark.TheVariants as mark
use Rattle.cert_text.specs.declared.grammar.Grammar.{Grammar}
use Rattle.cert_text.specs.declared.spot.Standing.{Standing}
use Rattle.cert_text.specs.declared.spot.Standing.TheVariants as standing
use Rattle.cert_text.specs.declared.spot.Draft.{Draft}
use Rattle.cert_text.specs.declared.spot.Word.{Word}
use Rattle.cert_text.specs.declared.spot.Word.TheVariants as word
use Rattle.cert_text.specs.declared.spot.NumberAt.{NumberAt}
use Rattle.cert_text.specs.declared.spot.NumberAt.TheVariants as place
use Rattle.cert_text.specs.declared.spot.Marked.{Marked}
use Rattle.cert_text.specs.declared.spot.Spot.{Spot}
use Rattle.cert_text.specs.declared.spot.Spot.TheVariants as spot
use Rattle.cert_text.specs.Grammar.{most_number}
use Rattle.cert_text.specs.Spelling.{mark_text}
use Rattle.cert_text.specs.Machine.{Step, On, Whole, Wrong, Opens, is_digit, word_text, after_word, in_word, begin}
use Rattle.cert_text.specs.Machine.{digit, first_digit, add_pair, add_end, add_last, after_root, after_ends, after_last, after_number, marked_line, byte_step}
use Rattle.cert_text.specs.Kept.{KeptSpot}
use Rattle.cert_text.proofs.Digits.{digit-true}

-- what a byte may lead to: an LF to no spot within a line, and another byte to no whole line
abbrev pub ByLf : ℕ → Step → Type 0
ByLf b (On d p) = (b == 10) ≡ false
ByLf b (Whole l) = (b == 10) ≡ true
ByLf b Wrong = Unit {0}

-- ---- tests

by_test : (b : ℕ) (v : Bool) (x y : Step) → (v ≡ true → ByLf b x) → ByLf b y → ByLf b (cond v x y)
by_test b true x y p q = p refl
by_test b false x y p q = q

where_so : (b : ℕ) (v : Bool) (x : Step) → (v ≡ true → ByLf b x) → ByLf b (cond v x Wrong)
where_so b v x p = by_test b v x Wrong p tt

-- at the byte c the step is x
at_byte : (b c : ℕ) (x y : Step) → ByLf c x → ByLf b y → ByLf b (cond (b == c) x y)
at_byte b c x y p q = by_test b (b == c) x y (λ e. subst (λ (n : ℕ). ByLf n x) (sym (eqb-true b c e)) p) q

wanted : (b c : ℕ) (x : Step) → ByLf c x → ByLf b (cond (b == c) x Wrong)
wanted b c x p = at_byte b c x Wrong p tt

digit_lf : (b : ℕ) → is_digit b ≡ true → (b == 10) ≡ false
digit_lf b h = let r = digit-true b h in ne_eqb b 10 (λ e. omega (arith, e, r.0))

first_lf : (d : Draft) (p : NumberAt) (b : ℕ) → ByLf b (first_digit d p b)
first_lf d p b = where_so b (is_digit b) (On d (spot.Digits p (b - 48))) (digit_lf b)

-- ---- words and marks

-- no byte of a text is an LF
abbrev no_lf : List ℕ → Bool
no_lf [] = true
no_lf (x ∷ xs) = cond (x == 10) false (no_lf xs)

both_no_lf : (v w : Bool) → cond v false w ≡ true → (v ≡ false) × (w ≡ true)
both_no_lf true w h = absurd cc
both_no_lf false w h = (refl, h)

no_lf_at : (xs : List ℕ) (at : ℕ) → no_lf xs ≡ true → (get_or xs at 0 == 10) ≡ false
no_lf_at [] at h = refl
no_lf_at (x ∷ xs) zero h = let r = both_no_lf (x == 10) (no_lf xs) h in r.0
no_lf_at (x ∷ xs) (suc k) h = let r = both_no_lf (x == 10) (no_lf xs) h in no_lf_at xs k r.1

head_no_lf : (g : Grammar) → (g.version == 10) ≡ false → no_lf (word_text g word.Head) ≡ true
head_no_lf g v = rw v refl

within : (d e : Draft) (p q : Spot) (c : ℕ) (v : Bool) → (c == 10) ≡ false → ByLf c (cond v (On d p) (On e q))
within d e p q c true h = h
within d e p q c false h = h

word_lf : (g : Grammar) (v : (g.version == 10) ≡ false) (d : Draft) (w : Word) (at : ℕ) → at < length (word_text g w)
    → ByLf (get_or (word_text g w) at 0) (cond (at + 1 == length (word_text g w)) (after_word d w) (On d (spot.InWord w (at + 1))))
word_lf g v d word.Head at lt = within d d (spot.Due place.HeadJobs) _ _ _ (no_lf_at (word_text g word.Head) at (head_no_lf g v))
word_lf g v d word.Level at lt = within d d (spot.Due place.LevelNumber) _ _ _ (no_lf_at (codes "level ") at refl)
word_lf g v d word.Root at lt = within d d (spot.Due place.RootLo) _ _ _ (no_lf_at (codes "root ") at refl)
word_lf g v d word.State at lt = within d d (spot.Due place.StateParent) _ _ _ (no_lf_at (codes "state ") at refl)
word_lf g v d word.Edge at lt = within d d (spot.Due place.EdgeFrom) _ _ _ (no_lf_at (codes "edge ") at refl)
word_lf g v d word.Job at lt = within d d (spot.Due place.JobNumber) _ _ _ (no_lf_at (codes "job ") at refl)
word_lf g v d word.Verdict at lt = within d d _ _ _ _ (no_lf_at (codes "verdict ") at refl)
word_lf g v d word.End zero lt = refl
word_lf g v d word.End (suc zero) lt = refl
word_lf g v d word.End (suc (suc zero)) lt = refl
word_lf g v d word.End (suc (suc (suc zero))) lt = refl
word_lf g v d word.End (suc (suc (suc (suc n)))) lt = absurd (omega (arith, lt))

mark_lf : (d : Draft) (to : Marked) (m : Mark) (at : ℕ) → at < length (mark_text m)
    → ByLf (get_or (mark_text m) at 0) (cond (at + 1 == length (mark_text m)) (Whole (marked_line to m)) (On d (spot.InMark to m (at + 1))))
mark_lf d to mark.Ok zero lt = refl
mark_lf d to mark.Ok (suc zero) lt = refl
mark_lf d to mark.Ok (suc (suc zero)) lt = refl
mark_lf d to mark.Ok (suc (suc (suc n))) lt = absurd (omega (arith, lt))
mark_lf d to mark.Miss zero lt = refl
mark_lf d to mark.Miss (suc zero) lt = refl
mark_lf d to mark.Miss (suc (suc zero)) lt = refl
mark_lf d to mark.Miss (suc (suc (suc zero))) lt = refl
mark_lf d to mark.Miss (suc (suc (suc (suc zero)))) lt = refl
mark_lf d to mark.Miss (suc (suc (suc (suc (suc n))))) lt = absurd (omega (arith, lt))

-- ---- numbers and lists

ends_lf : (g : Grammar) (d : Draft) (parent job b : ℕ) → ByLf b (after_ends g d parent job b)
ends_lf g d parent job b =
    by_test b g.has_last _ _ (λ h. wanted b 32 _ refl)
    (at_byte b 32 _ _ (where_so 32 (nat_lt (length d.ends) g.most_items) (On d (spot.Due (place.EndJob parent job))) (λ e. refl)) (wanted b 10 _ refl))

last_lf : (g : Grammar) (d : Draft) (parent job b : ℕ) → ByLf b (after_last g d parent job b)
last_lf g d parent job b =
    at_byte b 32 _ _ (where_so 32 (nat_lt (length d.last) g.most_items) (On d (spot.Due (place.LastJob parent job))) (λ e. refl)) (wanted b 10 _ refl)

root_lf : (g : Grammar) (d : Draft) (b : ℕ) → ByLf b (after_root g d b)
root_lf g d b =
    at_byte b 32 _ _ (where_so 32 (nat_lt (length d.pairs) g.most_pairs) (On d (spot.Due place.RootLo)) (λ e. refl)) (wanted b 10 _ refl)

number_lf : (g : Grammar) (d : Draft) (p : NumberAt) (v b : ℕ) → ByLf b (after_number g d p v b)
number_lf g d place.HeadJobs v b = wanted b 32 _ refl
number_lf g d (place.HeadCores jobs) v b = wanted b 10 _ refl
number_lf g d place.LevelNumber v b = wanted b 32 _ refl
number_lf g d (place.LevelCount number) v b = wanted b 10 _ refl
number_lf g d place.RootLo v b = wanted b 58 _ refl
number_lf g d (place.RootHi lo) v b = root_lf g (add_pair d (record { lo = lo; hi = v })) b
number_lf g d place.StateParent v b = wanted b 32 _ refl
number_lf g d (place.StateJob parent) v b = wanted b 32 _ refl
number_lf g d (place.PairLo parent job) v b = wanted b 58 _ refl
number_lf g d (place.PairHi parent job lo) v b = wanted b 32 _ refl
number_lf g d (place.EndJob parent job) v b = wanted b 58 _ refl
number_lf g d (place.EndLo parent job of) v b = wanted b 58 _ refl
number_lf g d (place.EndHi parent job of lo) v b = ends_lf g (add_end d (record { job = of; lo = lo; hi = v })) parent job b
number_lf g d (place.LastJob parent job) v b = last_lf g (add_last d v) parent job b
number_lf g d place.EdgeFrom v b = wanted b 32 _ refl
number_lf g d (place.EdgeJob from) v b = wanted b 32 _ refl
number_lf g d (place.EdgeEst from job) v b = wanted b 32 _ refl
number_lf g d (place.EdgeLst from job est) v b = wanted b 32 _ refl
number_lf g d (place.EdgeTo from job est lst) v b = wanted b 10 _ refl
number_lf g d place.JobNumber v b = wanted b 32 _ refl
number_lf g d (place.JobLo number) v b = wanted b 32 _ refl
number_lf g d (place.JobHi number lo) v b = wanted b 32 _ refl

digits_lf : (d : Draft) (p : NumberAt) (v b : ℕ) → is_digit b ≡ true → ByLf b (digit d p v (b - 48))
digits_lf d p v b h = by_test b (v == 0) Wrong _ (λ e. tt) (where_so b (nat_le (v * 10 + (b - 48)) most_number) _ (λ e. digit_lf b h))

begin_lf : (s : Standing) (b : ℕ) → ByLf b (begin s b)
begin_lf standing.First b = wanted b 115 _ refl
begin_lf standing.Inside b = at_byte b 101 _ _ refl (at_byte b 115 _ _ refl (at_byte b 108 _ _ refl (at_byte b 106 _ _ refl (at_byte b 114 _ _ refl (wanted b 118 _ refl)))))
begin_lf standing.Over b = tt

-- A byte ends a line exactly where it is an LF.
pub step_lf : (g : Grammar) (v : (g.version == 10) ≡ false) (s : Standing) (d : Draft) (p : Spot) (b : ℕ) → KeptSpot g d p → ByLf b (byte_step g s d p b)
step_lf g v s d spot.Start b k = begin_lf s b
step_lf g v s d spot.Forked b k = at_byte b 100 _ _ refl (wanted b 110 _ refl)
step_lf g v s d (spot.InWord w at) b k = wanted b (get_or (word_text g w) at 0) _ (word_lf g v d w at k.1)
step_lf g v s d (spot.Due p) b k = first_lf d p b
step_lf g v s d (spot.Digits p value) b k = by_test b (is_digit b) (digit d p value (b - 48)) (after_number g d p value b) (digits_lf d p value b) (number_lf g d p value b)
step_lf g v s d (spot.PairGap parent job) b k = at_byte b 124 _ _ refl (where_so b (nat_lt (length d.pairs) g.most_pairs) _ (λ e. first_lf d (place.PairLo parent job) b))
step_lf g v s d (spot.Barred parent job) b k = ends_lf g d parent job b
step_lf g v s d (spot.EndGap parent job) b k = at_byte b 124 _ _ refl (where_so b (nat_lt (length d.ends) g.most_items) _ (λ e. first_lf d (place.EndJob parent job) b))
step_lf g v s d (spot.Closed parent job) b k = last_lf g d parent job b
step_lf g v s d (spot.MarkDue to) b k = at_byte b 111 _ _ refl (wanted b 109 _ refl)
step_lf g v s d (spot.InMark to m at) b k = wanted b (get_or (mark_text m) at 0) _ (mark_lf d to m at k.1)

-- ---- the last byte of a word

ends_word : (g : Grammar) (w : Word) (at b : ℕ) (x y : Step) → b ≡ get_or (word_text g w) at 0 → at + 1 ≡ length (word_text g w)
    → cond (b == get_or (word_text g w) at 0) (cond (at + 1 == length (word_text g w)) x y) Wrong ≡ x
ends_word g w at b x y e f = rw (eq-eqb b (get_or (word_text g w) at 0) e, eq-eqb (at + 1) (length (word_text g w)) f) refl

pub word_opens : (g : Grammar) (w : Word) (at b : ℕ) (q : Spot) (d : Draft) → (b == 10) ≡ false → b ≡ get_or (word_text g w) at 0 → at + 1 ≡ length (word_text g w)
    → Opens w q → in_word g d w at b ≡ On d q
word_opens g word.Head at b q d n e f o = ends_word g word.Head at b _ _ e f ∙ o d
word_opens g word.Level at b q d n e f o = ends_word g word.Level at b _ _ e f ∙ o d
word_opens g word.Root at b q d n e f o = ends_word g word.Root at b _ _ e f ∙ o d
word_opens g word.State at b q d n e f o = ends_word g word.State at b _ _ e f ∙ o d
word_opens g word.Edge at b q d n e f o = ends_word g word.Edge at b _ _ e f ∙ o d
word_opens g word.Job at b q d n e f o = ends_word g word.Job at b _ _ e f ∙ o d
word_opens g word.Verdict at b q d n e f o = ends_word g word.Verdict at b _ _ e f ∙ o d
word_opens g word.End at b q d n e f o =
    let last : at ≡ 3 = omega (arith, f) in
    let lf : b ≡ 10 = e ∙ ap (λ (k : ℕ). get_or (codes "end\n") k 0) last in
    absurd (eqb-false b 10 n lf)
