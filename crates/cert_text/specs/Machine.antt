-- A machine that takes a certificate byte by byte. It is how the reader works; no clause of a public call but a law cites it.
--     step g draft spot b     what a byte of a line leads to
--     advance g text b        what a byte of a certificate leads to
--     run g text bytes        the same for each byte in turn; None where a byte fits nowhere
--     shown g draft spot      the bytes of the line that lead to a spot
use Rattle.std.specs.Prelude.{ℕ, ◌+◌, ◌-◌, ◌*◌, ◌==◌, ◌&&◌, nat_lt, nat_le, List, [], ◌∷◌, ◌++◌, length, cond, codes, decimal, Bool, Option, Some, None, take, get_or, ◌≡◌, Result, Ok, Err}
use Rattle.std.specs.List.{flat_map}
use Rattle.cert_text.specs.declared.line.Pair.{Pair}
use Rattle.cert_text.specs.declared.line.EndOf.{EndOf}
use Rattle.cert_text.specs.declared.line.Mark.{Mark}
use Rattle.cert_text.specs.declared.line.Mark.TheVariants as mark
use Rattle.cert_text.specs.declared.line.CertLine.{CertLine}
use Rattle.cert_text.specs.declared.line.CertLine.TheVariants as line
use Rattle.cert_text.specs.declared.grammar.Grammar.{Grammar}
pub use Rattle.cert_text.specs.declared.spot.Draft.{Draft}
use Rattle.cert_text.specs.declared.spot.Word.{Word}
use Rattle.cert_text.specs.declared.spot.Word.TheVariants as word
use Rattle.cert_text.specs.declared.spot.NumberAt.{NumberAt}
use Rattle.cert_text.specs.declared.spot.NumberAt.TheVariants as place
use Rattle.cert_text.specs.declared.spot.Marked.{Marked}
use Rattle.cert_text.specs.declared.spot.Marked.TheVariants as marked
use Rattle.cert_text.specs.declared.spot.Standing.{Standing}
use Rattle.cert_text.specs.declared.spot.Standing.TheVariants as standing
use Rattle.cert_text.specs.declared.spot.Spot.{Spot}
use Rattle.cert_text.specs.declared.spot.Spot.TheVariants as spot
use Rattle.cert_text.specs.declared.machine.StepFault.{StepFault}
use Rattle.cert_text.specs.declared.machine.StepFault.TheVariants as fault
use Rattle.cert_text.specs.Grammar.{most_number}
use Rattle.cert_text.specs.Spelling.{head_word, mark_text, pair_item_text, state_pairs, state_ends, state_last}

-- no pairs, no ends and no last jobs yet
abbrev pub no_items : Draft
no_items = record { pairs = []; ends = []; last = [] }

-- what a byte leads to
pub data Step : Type 0 where
  On : (draft : Draft) (spot : Spot) → Step
  Whole : CertLine → Step
  Wrong : Step

-- 0 to 9
abbrev pub is_digit : ℕ → Bool
is_digit b = nat_le 48 b && nat_le b 57

-- the word that begins a line, with the bytes up to the first number or mark; that of an end line has its LF
abbrev pub word_text : Grammar → Word → List ℕ
word_text g word.Head = head_word g
word_text g word.Level = codes "level "
word_text g word.Root = codes "root "
word_text g word.State = codes "state "
word_text g word.Edge = codes "edge "
word_text g word.Job = codes "job "
word_text g word.Verdict = codes "verdict "
word_text g word.End = codes "end\n"

-- behind the word of a line
abbrev pub after_word : Draft → Word → Step
after_word d word.Head = On d (spot.Due place.HeadJobs)
after_word d word.Level = On d (spot.Due place.LevelNumber)
after_word d word.Root = On d (spot.Due place.RootLo)
after_word d word.State = On d (spot.Due place.StateParent)
after_word d word.Edge = On d (spot.Due place.EdgeFrom)
after_word d word.Job = On d (spot.Due place.JobNumber)
after_word d word.Verdict = On d (spot.MarkDue marked.Verdict)
after_word d word.End = Whole line.End

-- the byte that is wanted leads on
abbrev pub wants : ℕ → ℕ → Step → Step
wants c b then = cond (b == c) then Wrong

-- A line begins.
abbrev pub begin : Standing → ℕ → Step
begin standing.First b = wants 115 b (On no_items (spot.InWord word.Head 1))
begin standing.Inside b =
    cond (b == 101) (On no_items spot.Forked)
    (cond (b == 115) (On no_items (spot.InWord word.State 1))
    (cond (b == 108) (On no_items (spot.InWord word.Level 1))
    (cond (b == 106) (On no_items (spot.InWord word.Job 1))
    (cond (b == 114) (On no_items (spot.InWord word.Root 1))
    (wants 118 b (On no_items (spot.InWord word.Verdict 1)))))))
begin standing.Over b = Wrong

-- in a word, of which so many bytes have come
abbrev pub in_word : Grammar → Draft → Word → ℕ → ℕ → Step
in_word g d w at b =
    wants (get_or (word_text g w) at 0) b
    (cond (at + 1 == length (word_text g w)) (after_word d w) (On d (spot.InWord w (at + 1))))

-- a further digit: none may follow a 0, and none may make the number too great
abbrev pub digit : Draft → NumberAt → ℕ → ℕ → Step
digit d p value x =
    cond (value == 0) Wrong
    (cond (nat_le (value * 10 + x) most_number) (On d (spot.Digits p (value * 10 + x))) Wrong)

-- a first digit
abbrev pub first_digit : Draft → NumberAt → ℕ → Step
first_digit d p b = cond (is_digit b) (On d (spot.Digits p (b - 48))) Wrong

-- a number is due where there is room for its item
abbrev pub room_for : ℕ → ℕ → Draft → NumberAt → Step
room_for count most d p = cond (nat_lt count most) (On d (spot.Due p)) Wrong

-- behind the second bar of a state line, or behind a last job
abbrev pub after_last : Grammar → Draft → ℕ → ℕ → ℕ → Step
after_last g d parent job b =
    cond (b == 32) (room_for (length d.last) g.most_items d (place.LastJob parent job))
    (wants 10 b (Whole (line.State parent job d.pairs d.ends d.last)))

-- Behind the first bar of a state line, or behind an end: where the version has last jobs, a space may come before an end and
-- before the second bar.
abbrev pub after_ends : Grammar → Draft → ℕ → ℕ → ℕ → Step
after_ends g d parent job b =
    cond g.has_last
    (wants 32 b (On d (spot.EndGap parent job)))
    (cond (b == 32) (room_for (length d.ends) g.most_items d (place.EndJob parent job))
    (wants 10 b (Whole (line.State parent job d.pairs d.ends d.last))))

-- a pair more
abbrev pub add_pair : Draft → Pair → Draft
add_pair d p = record { pairs = d.pairs ++ p ∷ []; ends = d.ends; last = d.last }

-- an end more
abbrev pub add_end : Draft → EndOf → Draft
add_end d e = record { pairs = d.pairs; ends = d.ends ++ e ∷ []; last = d.last }

-- a last job more
abbrev pub add_last : Draft → ℕ → Draft
add_last d n = record { pairs = d.pairs; ends = d.ends; last = d.last ++ n ∷ [] }

-- behind a pair of a root line
abbrev pub after_root : Grammar → Draft → ℕ → Step
after_root g d b =
    cond (b == 32) (room_for (length d.pairs) g.most_pairs d place.RootLo)
    (wants 10 b (Whole (line.Root d.pairs)))

-- A number ends, by a byte that is no digit.
abbrev pub after_number : Grammar → Draft → NumberAt → ℕ → ℕ → Step
after_number g d place.HeadJobs v b = wants 32 b (On d (spot.Due (place.HeadCores v)))
after_number g d (place.HeadCores jobs) v b = wants 10 b (Whole (line.Head jobs v))
after_number g d place.LevelNumber v b = wants 32 b (On d (spot.Due (place.LevelCount v)))
after_number g d (place.LevelCount number) v b = wants 10 b (Whole (line.Level number v))
after_number g d place.RootLo v b = wants 58 b (On d (spot.Due (place.RootHi v)))
after_number g d (place.RootHi lo) v b = after_root g (add_pair d (record { lo = lo; hi = v })) b
after_number g d place.StateParent v b = wants 32 b (On d (spot.Due (place.StateJob v)))
after_number g d (place.StateJob parent) v b = wants 32 b (On d (spot.Due (place.PairLo parent v)))
after_number g d (place.PairLo parent job) v b = wants 58 b (On d (spot.Due (place.PairHi parent job v)))
after_number g d (place.PairHi parent job lo) v b =
    wants 32 b (On (add_pair d (record { lo = lo; hi = v })) (spot.PairGap parent job))
after_number g d (place.EndJob parent job) v b = wants 58 b (On d (spot.Due (place.EndLo parent job v)))
after_number g d (place.EndLo parent job of) v b = wants 58 b (On d (spot.Due (place.EndHi parent job of v)))
after_number g d (place.EndHi parent job of lo) v b =
    after_ends g (add_end d (record { job = of; lo = lo; hi = v })) parent job b
after_number g d (place.LastJob parent job) v b = after_last g (add_last d v) parent job b
after_number g d place.EdgeFrom v b = wants 32 b (On d (spot.Due (place.EdgeJob v)))
after_number g d (place.EdgeJob from) v b = wants 32 b (On d (spot.Due (place.EdgeEst from v)))
after_number g d (place.EdgeEst from job) v b = wants 32 b (On d (spot.Due (place.EdgeLst from job v)))
after_number g d (place.EdgeLst from job est) v b = wants 32 b (On d (spot.Due (place.EdgeTo from job est v)))
after_number g d (place.EdgeTo from job est lst) v b = wants 10 b (Whole (line.Edge from job est lst v))
after_number g d place.JobNumber v b = wants 32 b (On d (spot.Due (place.JobLo v)))
after_number g d (place.JobLo number) v b = wants 32 b (On d (spot.Due (place.JobHi number v)))
after_number g d (place.JobHi number lo) v b = wants 32 b (On d (spot.MarkDue (marked.Job number lo v)))

-- the line that a mark ends
abbrev pub marked_line : Marked → Mark → CertLine
marked_line (marked.Job number lo hi) m = line.Job number lo hi m
marked_line marked.Verdict m = line.Verdict m

-- in a mark, of which so many bytes have come
abbrev pub in_mark : Draft → Marked → Mark → ℕ → ℕ → Step
in_mark d to m at b =
    wants (get_or (mark_text m) at 0) b
    (cond (at + 1 == length (mark_text m)) (Whole (marked_line to m)) (On d (spot.InMark to m (at + 1))))

-- A byte of a line.
abbrev pub byte_step : Grammar → Standing → Draft → Spot → ℕ → Step
byte_step g s d spot.Start b = begin s b
byte_step g s d spot.Forked b = cond (b == 100) (On d (spot.InWord word.Edge 2)) (wants 110 b (On d (spot.InWord word.End 2)))
byte_step g s d (spot.InWord w at) b = in_word g d w at b
byte_step g s d (spot.Due p) b = first_digit d p b
byte_step g s d (spot.Digits p value) b = cond (is_digit b) (digit d p value (b - 48)) (after_number g d p value b)
byte_step g s d (spot.PairGap parent job) b =
    cond (b == 124) (On d (spot.Barred parent job))
    (cond (nat_lt (length d.pairs) g.most_pairs) (first_digit d (place.PairLo parent job) b) Wrong)
byte_step g s d (spot.Barred parent job) b = after_ends g d parent job b
byte_step g s d (spot.EndGap parent job) b =
    cond (b == 124) (On d (spot.Closed parent job))
    (cond (nat_lt (length d.ends) g.most_items) (first_digit d (place.EndJob parent job) b) Wrong)
byte_step g s d (spot.Closed parent job) b = after_last g d parent job b
byte_step g s d (spot.MarkDue to) b =
    cond (b == 111) (On d (spot.InMark to mark.Ok 1)) (wants 109 b (On d (spot.InMark to mark.Miss 1)))
byte_step g s d (spot.InMark to m at) b = in_mark d to m at b

-- Bytes of a line. After a whole line no byte fits.
abbrev pub byte_steps : Grammar → Standing → Step → List ℕ → Step
byte_steps g s now [] = now
byte_steps g s (On d p) (b ∷ bs) = byte_steps g s (byte_step g s d p b) bs
byte_steps g s (Whole l) (b ∷ bs) = Wrong
byte_steps g s Wrong (b ∷ bs) = Wrong

-- A certificate so far: its whole lines, and where the next line stands.
pub record Text : Type 0 where
  pub lines : List CertLine
  pub standing : Standing
  pub draft : Draft
  pub spot : Spot

-- which lines may come behind a line
abbrev pub standing_after : CertLine → Standing
standing_after line.End = standing.Over
standing_after other = standing.Inside

-- what a step within a line makes of the certificate so far
abbrev pub settle : Text → Step → Option Text
settle t (On d p) = Some (record t { draft = d; spot = p })
settle t (Whole l) = Some (record { lines = t.lines ++ l ∷ []; standing = standing_after l; draft = no_items; spot = spot.Start })
settle t Wrong = None

-- a byte of a certificate
abbrev pub advance : Grammar → Text → ℕ → Option Text
advance g t b = settle t (byte_step g t.standing t.draft t.spot b)

-- bytes of a certificate
abbrev pub advances : Grammar → Option Text → List ℕ → Option Text
advances g t [] = t
advances g None (b ∷ bs) = None
advances g (Some t) (b ∷ bs) = advances g (advance g t b) bs

-- before the first byte
abbrev pub text_start : Text
text_start = record { lines = []; standing = standing.First; draft = no_items; spot = spot.Start }

-- where the bytes of a certificate lead
abbrev pub run : Grammar → List ℕ → Option Text
run g bytes = advances g (Some text_start) bytes

-- the bytes of a line before a number
abbrev pub number_front : Grammar → Draft → NumberAt → List ℕ
number_front g d place.HeadJobs = head_word g
number_front g d (place.HeadCores jobs) = head_word g ++ decimal jobs ++ 32 ∷ []
number_front g d place.LevelNumber = codes "level "
number_front g d (place.LevelCount number) = codes "level " ++ decimal number ++ 32 ∷ []
number_front g d place.RootLo = codes "root" ++ flat_map pair_item_text d.pairs ++ 32 ∷ []
number_front g d (place.RootHi lo) = codes "root" ++ flat_map pair_item_text d.pairs ++ 32 ∷ [] ++ decimal lo ++ 58 ∷ []
number_front g d place.StateParent = codes "state "
number_front g d (place.StateJob parent) = codes "state " ++ decimal parent ++ 32 ∷ []
number_front g d (place.PairLo parent job) = state_pairs parent job d.pairs ++ 32 ∷ []
number_front g d (place.PairHi parent job lo) = state_pairs parent job d.pairs ++ 32 ∷ [] ++ decimal lo ++ 58 ∷ []
number_front g d (place.EndJob parent job) = state_ends parent job d.pairs d.ends ++ 32 ∷ []
number_front g d (place.EndLo parent job of) = state_ends parent job d.pairs d.ends ++ 32 ∷ [] ++ decimal of ++ 58 ∷ []
number_front g d (place.EndHi parent job of lo) =
    state_ends parent job d.pairs d.ends ++ 32 ∷ [] ++ decimal of ++ 58 ∷ [] ++ decimal lo ++ 58 ∷ []
number_front g d (place.LastJob parent job) = state_last parent job d.pairs d.ends d.last ++ 32 ∷ []
number_front g d place.EdgeFrom = codes "edge "
number_front g d (place.EdgeJob from) = codes "edge " ++ decimal from ++ 32 ∷ []
number_front g d (place.EdgeEst from job) = codes "edge " ++ decimal from ++ 32 ∷ [] ++ decimal job ++ 32 ∷ []
number_front g d (place.EdgeLst from job est) =
    codes "edge " ++ decimal from ++ 32 ∷ [] ++ decimal job ++ 32 ∷ [] ++ decimal est ++ 32 ∷ []
number_front g d (place.EdgeTo from job est lst) =
    codes "edge " ++ decimal from ++ 32 ∷ [] ++ decimal job ++ 32 ∷ [] ++ decimal est ++ 32 ∷ [] ++ decimal lst ++ 32 ∷ []
number_front g d place.JobNumber = codes "job "
number_front g d (place.JobLo number) = codes "job " ++ decimal number ++ 32 ∷ []
number_front g d (place.JobHi number lo) = codes "job " ++ decimal number ++ 32 ∷ [] ++ decimal lo ++ 32 ∷ []

-- the bytes of a line before its mark
abbrev pub mark_front : Marked → List ℕ
mark_front (marked.Job number lo hi) = codes "job " ++ decimal number ++ 32 ∷ [] ++ decimal lo ++ 32 ∷ [] ++ decimal hi ++ 32 ∷ []
mark_front marked.Verdict = codes "verdict "

-- the bytes of the line so far
abbrev pub shown : Grammar → Draft → Spot → List ℕ
shown g d spot.Start = []
shown g d spot.Forked = codes "e"
shown g d (spot.InWord w at) = take at (word_text g w)
shown g d (spot.Due p) = number_front g d p
shown g d (spot.Digits p value) = number_front g d p ++ decimal value
shown g d (spot.PairGap parent job) = state_pairs parent job d.pairs ++ 32 ∷ []
shown g d (spot.Barred parent job) = state_ends parent job d.pairs d.ends
shown g d (spot.EndGap parent job) = state_ends parent job d.pairs d.ends ++ 32 ∷ []
shown g d (spot.Closed parent job) = state_last parent job d.pairs d.ends d.last
shown g d (spot.MarkDue to) = mark_front to
shown g d (spot.InMark to m at) = mark_front to ++ take at (mark_text m)

-- what taking a byte within a line gives
abbrev pub LeadsTo : Step → Result Unit StepFault → Draft → Spot → Type 0
LeadsTo now (Ok u) d p = now ≡ On d p
LeadsTo now (Err fault.Wrong) d p = now ≡ Wrong
LeadsTo now (Err fault.Memory) d p = Unit {0}

-- what taking the byte behind a line gives
abbrev pub EndsLine : Step → Result CertLine StepFault → Type 0
EndsLine now (Ok l) = now ≡ Whole l
EndsLine now (Err fault.Wrong) = now ≡ Wrong
EndsLine now (Err fault.Memory) = Unit {0}

-- the number is not the last of a pair, of an end or of a job line, and no last job
abbrev pub IsInnerNumber : NumberAt → Type 0
IsInnerNumber (place.RootHi lo) = ⊥
IsInnerNumber (place.PairHi parent job lo) = ⊥
IsInnerNumber (place.EndHi parent job of lo) = ⊥
IsInnerNumber (place.LastJob parent job) = ⊥
IsInnerNumber (place.JobHi number lo) = ⊥
IsInnerNumber other = Unit {0}

-- where the last byte of a word leads, of other lines than the end
abbrev pub Opens : Word → Spot → Type 0
Opens word.End p = Unit {0}
Opens w p = (d : Draft) → after_word d w ≡ On d p
