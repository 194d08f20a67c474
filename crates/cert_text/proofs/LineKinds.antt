-- A line that begins as a head line is one, and no other is.
use Rattle.std.proofs.Common.{◌≡◌, ℕ, ◌+◌, ◌-◌, ◌*◌, ◌==◌, nat_lt, nat_le, Bool, true, false, cond, [], ◌∷◌, ◌++◌, length, get_or, refl}
use Rattle.cert_text.specs.declared.line.Mark.{Mark}
use Rattle.cert_text.specs.declared.line.CertLine.{CertLine}
use Rattle.cert_text.specs.declared.line.CertLine.TheVariants as line
use Rattle.cert_text.specs.declared.grammar.Grammar.{Grammar}
use Rattle.cert_text.specs.declared.spot.Standing.{Standing}
use Rattle.cert_text.specs.declared.spot.Standing.TheVariants as standing
use Rattle.cert_text.specs.declared.spot.Draft.{Draft}
use Rattle.cert_text.specs.declared.spot.Word.{Word}
use Rattle.cert_text.specs.declared.spot.Word.TheVariants as word
use Rattle.cert_text.specs.declared.spot.NumberAt.{NumberAt}
use Rattle.cert_text.specs.declared.spot.NumberAt.TheVariants as place
use Rattle.cert_text.specs.declared.spot.Marked.{Marked}
use Rattle.cert_text.specs.declared.spot.Marked.TheVariants as marked
use Rattle.cert_text.specs.declared.spot.Spot.{Spot}
use Rattle.cert_text.specs.declared.spot.Spot.TheVariants as spot
use Rattle.cert_text.specs.Grammar.{most_number}
use Rattle.cert_text.specs.Spelling.{mark_text}
use Rattle.cert_text.specs.Machine.{Step, On, Whole, Wrong, is_digit, word_text, after_word, begin, digit, add_end, add_last, after_ends, after_last, after_number, marked_line, byte_step}

abbrev pub is_head_line : CertLine → Bool
is_head_line (line.Head jobs cores) = true
is_head_line other = false

abbrev pub is_head_place : NumberAt → Bool
is_head_place place.HeadJobs = true
is_head_place (place.HeadCores jobs) = true
is_head_place other = false

abbrev pub is_head_word : Word → Bool
is_head_word word.Head = true
is_head_word other = false

abbrev pub is_head_spot : Spot → Bool
is_head_spot (spot.InWord w at) = is_head_word w
is_head_spot (spot.Due p) = is_head_place p
is_head_spot (spot.Digits p v) = is_head_place p
is_head_spot other = false

abbrev pub IsInLine : Spot → Type 0
IsInLine spot.Start = ⊥
IsInLine other = Unit {0}

-- within a line of this kind, or at its end
abbrev pub OfKind : Bool → Step → Type 0
OfKind h (On d p) = (is_head_spot p ≡ h) × IsInLine p
OfKind h (Whole l) = is_head_line l ≡ h
OfKind h Wrong = Unit {0}

either : (h : Bool) (b : Bool) (x y : Step) → OfKind h x → OfKind h y → OfKind h (cond b x y)
either h true x y p q = p
either h false x y p q = q

or_wrong : (h : Bool) (b : Bool) (x : Step) → OfKind h x → OfKind h (cond b x Wrong)
or_wrong h b x p = either h b x Wrong p tt

word_kind : (d : Draft) (w : Word) → OfKind (is_head_word w) (after_word d w)
word_kind d word.Head = (refl, tt)
word_kind d word.Level = (refl, tt)
word_kind d word.Root = (refl, tt)
word_kind d word.State = (refl, tt)
word_kind d word.Edge = (refl, tt)
word_kind d word.Job = (refl, tt)
word_kind d word.Verdict = (refl, tt)
word_kind d word.End = refl

mark_kind : (to : Marked) (m : Mark) → is_head_line (marked_line to m) ≡ false
mark_kind (marked.Job number lo hi) m = refl
mark_kind marked.Verdict m = refl

ends_kind : (g : Grammar) (d : Draft) (parent job b : ℕ) → OfKind false (after_ends g d parent job b)
ends_kind g d parent job b =
    either false g.has_last _ _ (or_wrong false (b == 32) _ (refl, tt))
    (either false (b == 32) _ _ (or_wrong false (nat_lt (length d.ends) g.most_items) _ (refl, tt)) (or_wrong false (b == 10) _ refl))

last_kind : (g : Grammar) (d : Draft) (parent job b : ℕ) → OfKind false (after_last g d parent job b)
last_kind g d parent job b =
    either false (b == 32) _ _ (or_wrong false (nat_lt (length d.last) g.most_items) _ (refl, tt)) (or_wrong false (b == 10) _ refl)

number_kind : (g : Grammar) (d : Draft) (p : NumberAt) (v b : ℕ) → OfKind (is_head_place p) (after_number g d p v b)
number_kind g d place.HeadJobs v b = or_wrong true (b == 32) _ (refl, tt)
number_kind g d (place.HeadCores jobs) v b = or_wrong true (b == 10) _ refl
number_kind g d place.LevelNumber v b = or_wrong false (b == 32) _ (refl, tt)
number_kind g d (place.LevelCount number) v b = or_wrong false (b == 10) _ refl
number_kind g d place.RootLo v b = or_wrong false (b == 58) _ (refl, tt)
number_kind g d (place.RootHi lo) v b =
    either false (b == 32) _ _ (or_wrong false (nat_lt (length (d.pairs ++ record { lo = lo; hi = v } ∷ [])) g.most_pairs) _ (refl, tt)) (or_wrong false (b == 10) _ refl)
number_kind g d place.StateParent v b = or_wrong false (b == 32) _ (refl, tt)
number_kind g d (place.StateJob parent) v b = or_wrong false (b == 32) _ (refl, tt)
number_kind g d (place.PairLo parent job) v b = or_wrong false (b == 58) _ (refl, tt)
number_kind g d (place.PairHi parent job lo) v b = or_wrong false (b == 32) _ (refl, tt)
number_kind g d (place.EndJob parent job) v b = or_wrong false (b == 58) _ (refl, tt)
number_kind g d (place.EndLo parent job of) v b = or_wrong false (b == 58) _ (refl, tt)
number_kind g d (place.EndHi parent job of lo) v b = ends_kind g (add_end d (record { job = of; lo = lo; hi = v })) parent job b
number_kind g d (place.LastJob parent job) v b = last_kind g (add_last d v) parent job b
number_kind g d place.EdgeFrom v b = or_wrong false (b == 32) _ (refl, tt)
number_kind g d (place.EdgeJob from) v b = or_wrong false (b == 32) _ (refl, tt)
number_kind g d (place.EdgeEst from job) v b = or_wrong false (b == 32) _ (refl, tt)
number_kind g d (place.EdgeLst from job est) v b = or_wrong false (b == 32) _ (refl, tt)
number_kind g d (place.EdgeTo from job est lst) v b = or_wrong false (b == 10) _ refl
number_kind g d place.JobNumber v b = or_wrong false (b == 32) _ (refl, tt)
number_kind g d (place.JobLo number) v b = or_wrong false (b == 32) _ (refl, tt)
number_kind g d (place.JobHi number lo) v b = or_wrong false (b == 32) _ (refl, tt)

pub begin_head : (b : ℕ) → OfKind true (begin standing.First b)
begin_head b = or_wrong true (b == 115) _ (refl, tt)

pub begin_other : (b : ℕ) → OfKind false (begin standing.Inside b)
begin_other b =
    either false (b == 101) _ _ (refl, tt) (either false (b == 115) _ _ (refl, tt) (either false (b == 108) _ _ (refl, tt)
    (either false (b == 106) _ _ (refl, tt) (either false (b == 114) _ _ (refl, tt) (or_wrong false (b == 118) _ (refl, tt))))))

-- A step within a line keeps its kind.
pub step_kind : (g : Grammar) (s : Standing) (d : Draft) (p : Spot) (b : ℕ) → IsInLine p → OfKind (is_head_spot p) (byte_step g s d p b)
step_kind g s d spot.Start b h = absurd h
step_kind g s d spot.Forked b h = either false (b == 100) _ _ (refl, tt) (or_wrong false (b == 110) _ (refl, tt))
step_kind g s d (spot.InWord w at) b h = or_wrong (is_head_word w) (b == get_or (word_text g w) at 0) _ (either (is_head_word w) (at + 1 == length (word_text g w)) _ _ (word_kind d w) (refl, tt))
step_kind g s d (spot.Due p) b h = or_wrong (is_head_place p) (is_digit b) _ (refl, tt)
step_kind g s d (spot.Digits p v) b h =
    either (is_head_place p) (is_digit b) (digit d p v (b - 48)) (after_number g d p v b)
    (either (is_head_place p) (v == 0) Wrong _ tt (or_wrong (is_head_place p) (nat_le (v * 10 + (b - 48)) most_number) _ (refl, tt)))
    (number_kind g d p v b)
step_kind g s d (spot.PairGap parent job) b h = either false (b == 124) _ _ (refl, tt) (or_wrong false (nat_lt (length d.pairs) g.most_pairs) _ (or_wrong false (is_digit b) _ (refl, tt)))
step_kind g s d (spot.Barred parent job) b h = ends_kind g d parent job b
step_kind g s d (spot.EndGap parent job) b h = either false (b == 124) _ _ (refl, tt) (or_wrong false (nat_lt (length d.ends) g.most_items) _ (or_wrong false (is_digit b) _ (refl, tt)))
step_kind g s d (spot.Closed parent job) b h = last_kind g d parent job b
step_kind g s d (spot.MarkDue to) b h = either false (b == 111) _ _ (refl, tt) (or_wrong false (b == 109) _ (refl, tt))
step_kind g s d (spot.InMark to m at) b h = or_wrong false (b == get_or (mark_text m) at 0) _ (either false (at + 1 == length (mark_text m)) _ _ (mark_kind to m) (refl, tt))
