-- What the machine knows at each spot.
--     KeptSpot g draft spot     the numbers and lengths so far are in the version's ranges
--     TakesPiece                what taking the bytes of a piece gives, up to the end of a line
use Rattle.std.specs.Prelude.{◌≡◌, ℕ, ◌<◌, ◌≤◌, true, List, [], length, take, Result, Ok, Err, ◌+◌}
use Rattle.std.specs.List.{AllByRecursion}
use Rattle.cert_text.specs.declared.grammar.Grammar.{Grammar}
use Rattle.cert_text.specs.declared.spot.Standing.{Standing}
use Rattle.cert_text.specs.declared.spot.Draft.{Draft}
use Rattle.cert_text.specs.declared.spot.NumberAt.{NumberAt}
use Rattle.cert_text.specs.declared.spot.NumberAt.TheVariants as place
use Rattle.cert_text.specs.declared.spot.Marked.{Marked}
use Rattle.cert_text.specs.declared.spot.Marked.TheVariants as marked
use Rattle.cert_text.specs.declared.spot.Spot.{Spot}
use Rattle.cert_text.specs.declared.spot.Spot.TheVariants as spot
use Rattle.cert_text.specs.declared.feed.PieceEnd.{PieceEnd}
use Rattle.cert_text.specs.declared.feed.PieceEnd.TheVariants as piece_end
use Rattle.cert_text.specs.declared.feed.LineFault.{LineFault}
use Rattle.cert_text.specs.declared.feed.LineFault.TheVariants as line_fault
use Rattle.cert_text.specs.Grammar.{IsCertNumber}
use Rattle.cert_text.specs.Spelling.{FitsPair, FitsState, mark_text}
use Rattle.cert_text.specs.Machine.{no_items, Step, On, Whole, Wrong, word_text, byte_steps}

-- ---- what is kept at each spot

-- the lists of the line are empty
abbrev pub HasNone : Draft → Type 0
HasNone d = (d.pairs ≡ []) × (d.ends ≡ []) × (d.last ≡ [])

-- there is room for a pair
pub record PairRoom (g : Grammar) (d : Draft) : Type 0 where
  pub room : length d.pairs < g.most_pairs
  pub each : AllByRecursion FitsPair d.pairs

-- in the pairs of a state line
pub record InPairs (g : Grammar) (d : Draft) (parent job : ℕ) : Type 0 where
  pub fit_parent : IsCertNumber parent
  pub fit_job : IsCertNumber job
  pub pairs_room : PairRoom g d
  pub no_ends : d.ends ≡ []
  pub no_last : d.last ≡ []

-- the state line so far is in range
abbrev pub StateFits : Grammar → Draft → ℕ → ℕ → Type 0
StateFits g d parent job = FitsState g parent job d.pairs d.ends d.last

-- in the ends of a state line
pub record InEnds (g : Grammar) (d : Draft) (parent job : ℕ) : Type 0 where
  pub fits : StateFits g d parent job
  pub room : length d.ends < g.most_items
  pub no_last : d.last ≡ []

-- in the last jobs of a state line
pub record InLast (g : Grammar) (d : Draft) (parent job : ℕ) : Type 0 where
  pub fits : StateFits g d parent job
  pub room : length d.last < g.most_items
  pub has : g.has_last ≡ true

-- where a number comes
abbrev pub KeptNumber : Grammar → Draft → NumberAt → Type 0
KeptNumber g d place.HeadJobs = Unit {0}
KeptNumber g d (place.HeadCores jobs) = IsCertNumber jobs
KeptNumber g d place.LevelNumber = Unit {0}
KeptNumber g d (place.LevelCount number) = IsCertNumber number
KeptNumber g d place.RootLo = PairRoom g d
KeptNumber g d (place.RootHi lo) = PairRoom g d × IsCertNumber lo
KeptNumber g d place.StateParent = HasNone d
KeptNumber g d (place.StateJob parent) = HasNone d × IsCertNumber parent
KeptNumber g d (place.PairLo parent job) = InPairs g d parent job
KeptNumber g d (place.PairHi parent job lo) = InPairs g d parent job × IsCertNumber lo
KeptNumber g d (place.EndJob parent job) = InEnds g d parent job
KeptNumber g d (place.EndLo parent job of) = InEnds g d parent job × IsCertNumber of
KeptNumber g d (place.EndHi parent job of lo) = InEnds g d parent job × IsCertNumber of × IsCertNumber lo
KeptNumber g d (place.LastJob parent job) = InLast g d parent job
KeptNumber g d place.EdgeFrom = Unit {0}
KeptNumber g d (place.EdgeJob from) = IsCertNumber from
KeptNumber g d (place.EdgeEst from job) = IsCertNumber from × IsCertNumber job
KeptNumber g d (place.EdgeLst from job est) = IsCertNumber from × IsCertNumber job × IsCertNumber est
KeptNumber g d (place.EdgeTo from job est lst) = IsCertNumber from × IsCertNumber job × IsCertNumber est × IsCertNumber lst
KeptNumber g d place.JobNumber = Unit {0}
KeptNumber g d (place.JobLo number) = IsCertNumber number
KeptNumber g d (place.JobHi number lo) = IsCertNumber number × IsCertNumber lo

-- before a mark
abbrev pub KeptMarked : Marked → Type 0
KeptMarked (marked.Job number lo hi) = IsCertNumber number × IsCertNumber lo × IsCertNumber hi
KeptMarked marked.Verdict = Unit {0}

-- at any spot
abbrev pub KeptSpot : Grammar → Draft → Spot → Type 0
KeptSpot g d spot.Start = d ≡ no_items
KeptSpot g d spot.Forked = HasNone d
KeptSpot g d (spot.InWord w at) = HasNone d × (at < length (word_text g w))
KeptSpot g d (spot.Due p) = KeptNumber g d p
KeptSpot g d (spot.Digits p value) = KeptNumber g d p × IsCertNumber value
KeptSpot g d (spot.PairGap parent job) = StateFits g d parent job × (d.ends ≡ []) × (d.last ≡ [])
KeptSpot g d (spot.Barred parent job) = StateFits g d parent job × (d.last ≡ [])
KeptSpot g d (spot.EndGap parent job) = StateFits g d parent job × (d.last ≡ []) × (g.has_last ≡ true)
KeptSpot g d (spot.Closed parent job) = StateFits g d parent job × (g.has_last ≡ true)
KeptSpot g d (spot.MarkDue to) = KeptMarked to
KeptSpot g d (spot.InMark to m at) = KeptMarked to × (at < length (mark_text m))

-- Further digits take a number from one value to another.
abbrev pub DigitsLead : ℕ → List ℕ → ℕ → Type 0
DigitsLead from digits to =
    (g : Grammar) (s : Standing) (d : Draft) (p : NumberAt) → byte_steps g s (On d (spot.Digits p from)) digits ≡ On d (spot.Digits p to)

-- Bytes take a line from one spot to another, and add no items.
abbrev pub MovesSpot : Standing → Spot → List ℕ → Spot → Type 0
MovesSpot s from bytes to = (g : Grammar) (d : Draft) → KeptSpot g d from → byte_steps g s (On d from) bytes ≡ On d to

-- within a line
abbrev pub IsOn : Step → Type 0
IsOn (On d p) = Unit {0}
IsOn other = ⊥

-- What taking the bytes of a piece gives, up to the end of a line.
abbrev pub TakesPiece : Grammar → Standing → Step → List ℕ → Result PieceEnd LineFault → Draft → Spot → Type 0
TakesPiece g s now piece (Ok (piece_end.Part n)) d p =
    (n ≡ length piece) × (byte_steps g s now piece ≡ On d p) × KeptSpot g d p
TakesPiece g s now piece (Ok (piece_end.Line n l)) d p =
    (0 < n) × (n ≤ length piece) × (byte_steps g s now (take n piece) ≡ Whole l) × (d ≡ no_items) × (p ≡ spot.Start)
TakesPiece g s now piece (Err (line_fault.Wrong i)) d p =
    (i < length piece) × IsOn (byte_steps g s now (take i piece)) × (byte_steps g s now (take (i + 1) piece) ≡ Wrong)
TakesPiece g s now piece (Err line_fault.Memory) d p = Unit {0}

-- What taking the LF with this index in a piece gives.
abbrev pub EndsPiece : Step → ℕ → Result PieceEnd LineFault → Draft → Spot → Type 0
EndsPiece now i (Ok (piece_end.Part n)) d p = ⊥
EndsPiece now i (Ok (piece_end.Line n l)) d p = (n ≡ i + 1) × (now ≡ Whole l) × (d ≡ no_items) × (p ≡ spot.Start)
EndsPiece now i (Err (line_fault.Wrong j)) d p = (j ≡ i) × (now ≡ Wrong)
EndsPiece now i (Err line_fault.Memory) d p = Unit {0}
