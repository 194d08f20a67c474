-- What a reader of certificates is seen as, and what its calls do.
--     first_line piece     the bytes of a piece that one call takes
--     HeldReader           its version, what it holds, and the line that waits
--     AfterPiece           what a call that takes a piece leaves
--     Closes               what the end of the bytes gives
use Rattle.std.specs.Prelude.{ℕ, ◌≡◌, ◌<◌, ◌+◌, ◌^◌, ◌==◌, List, [], ◌∷◌, ◌++◌, length, cond, Bool, true, false, count_by, Option, Some, None, Result, Ok, Err}
use Rattle.cert_text.specs.declared.fault.FeedFault.{FeedFault}
use Rattle.cert_text.specs.declared.fault.FeedFault.TheVariants as fault
use Rattle.cert_text.specs.declared.feed.LineFault.{LineFault}
use Rattle.cert_text.specs.declared.feed.LineFault.TheVariants as line_fault
use Rattle.cert_text.specs.declared.line.CertLine.{CertLine}
use Rattle.cert_text.specs.declared.line.CertLine.TheVariants as line
use Rattle.cert_text.specs.declared.spot.Draft.{Draft}
use Rattle.cert_text.specs.declared.spot.Spot.{Spot}
use Rattle.cert_text.specs.declared.spot.Spot.TheVariants as spot
use Rattle.cert_text.specs.declared.spot.Standing.{Standing}
use Rattle.cert_text.specs.declared.spot.Standing.TheVariants as standing
use Rattle.cert_text.specs.declared.grammar.Grammar.{Grammar}
use Rattle.cert_text.specs.Spelling.{line_text, FitsLine}
use Rattle.cert_text.specs.Readable.{Readable, IsPrefix}
use Rattle.cert_text.specs.Taken.{Held, Open, Fault, HoldsAfter, is_lf, after_last_lf}
use Rattle.cert_text.specs.Machine.{no_items, On, byte_steps, shown}
use Rattle.cert_text.specs.Kept.{KeptSpot}

-- the bytes through the first LF: all of them, where there is none
abbrev pub first_line : List ℕ → List ℕ
first_line [] = []
first_line (b ∷ bs) = cond (is_lf b) (b ∷ []) (b ∷ first_line bs)

-- what a reader is seen as: the version that it reads, what it holds, and the line that waits to be taken out
pub record HeldReader : Type 0 where
  pub grammar : Grammar
  pub held : Held
  pub waiting : Option CertLine

-- of a reader that keeps a fault
abbrev pub IfFault : Held → (FeedFault → Type 0) → Type 0
IfFault (Open lines rest ended) P = Unit {0}
IfFault (Fault f) P = P f

-- of a reader that keeps no fault
abbrev pub IfOpen : Held → Type 0 → Type 0
IfOpen (Open lines rest ended) P = P
IfOpen (Fault f) P = Unit {0}

-- of a reader that keeps no fault, and in which a line waits
abbrev pub IfWaiting : Held → Option CertLine → Type 0 → Type 0
IfWaiting (Open lines rest ended) (Some line) P = P
IfWaiting held waiting P = Unit {0}

-- of a reader that keeps no fault, and in which no line waits, with the bytes of its last line
abbrev pub IfReady : Held → Option CertLine → (List ℕ → Type 0) → Type 0
IfReady (Open lines rest ended) None P = P rest
IfReady held waiting P = Unit {0}

-- no fault is kept
abbrev pub IsOpen : Held → Type 0
IsOpen (Open lines rest ended) = Unit {0}
IsOpen (Fault f) = ⊥

-- the number of whole lines, or 0 behind a fault
abbrev pub count_of_lines : Held → ℕ
count_of_lines (Open lines rest ended) = lines
count_of_lines (Fault f) = 0

-- Over all bytes after which the reader may hold what it holds: what it holds after the piece.
abbrev pub TakesOn : Grammar → Held → List ℕ → Held → Type 0
TakesOn g old piece new =
    (bytes : List ℕ) → HoldsAfter g bytes old → HoldsAfter g (bytes ++ first_line piece) new

-- A line waits exactly where the piece has an LF, and the line is the one of these bytes.
abbrev pub Brings : Grammar → List ℕ → List ℕ → Option CertLine → Type 0
Brings g rest piece None = count_by is_lf piece ≡ 0
Brings g rest piece (Some line) = (line_text g line ≡ rest ++ first_line piece) × FitsLine g line

-- The piece was taken through its first LF, or whole.
pub record TakesLine (g : Grammar) (old : Held) (rest piece : List ℕ) (count : ℕ) (new : HeldReader) : Type 0 where
  pub taken : count ≡ length (first_line piece)
  pub no_fault : IsOpen new.held
  pub holds : TakesOn g old piece new.held
  pub brings : Brings g rest piece new.waiting

-- What a call leaves that takes a piece behind these bytes of a line.
abbrev pub AfterPiece : Grammar → Held → List ℕ → List ℕ → Result ℕ FeedFault → HeldReader → Type 0
AfterPiece g old rest piece (Ok count) new = TakesLine g old rest piece count new
AfterPiece g old rest piece (Err (fault.Text line byte)) new =
    (new ≡ record { grammar = g; held = Fault (fault.Text line byte); waiting = None }) × TakesOn g old piece new.held
AfterPiece g old rest piece (Err fault.Memory) new =
    new ≡ record { grammar = g; held = Fault fault.Memory; waiting = None }

-- some lines are those of the bytes
abbrev pub IsReadable : Grammar → List ℕ → Type 0
IsReadable g bytes = (lines : List CertLine) × Readable g bytes lines

-- The bytes begin a readable certificate and are none, and their end is the place.
pub record Lacks (g : Grammar) (bytes : List ℕ) (line byte : ℕ) : Type 0 where
  pub prefix : IsPrefix g bytes
  pub short : IsReadable g bytes → ⊥
  pub at_line : line ≡ count_by is_lf bytes + 1
  pub at_byte : byte ≡ length (after_last_lf bytes) + 1

-- What the end of the bytes gives, where no fault is kept.
abbrev pub Closes : Grammar → List ℕ → Result Unit FeedFault → Type 0
Closes g bytes (Ok u) = IsReadable g bytes
Closes g bytes (Err (fault.Text line byte)) = Lacks g bytes line byte
Closes g bytes (Err fault.Memory) = ⊥

-- ---- what a reader keeps

-- an end line
abbrev pub is_end : CertLine → Bool
is_end line.End = true
is_end other = false

-- which lines may come behind so many
abbrev pub standing_at : ℕ → Bool → Standing
standing_at lines ended = cond ended standing.Over (cond (lines == 0) standing.First standing.Inside)

-- what is held: the fault, where one is kept
abbrev pub held_or_fault : Option FeedFault → ℕ → List ℕ → Bool → Held
held_or_fault None lines rest ended = Open lines rest ended
held_or_fault (Some f) lines rest ended = Fault f

-- the fault behind so many lines and bytes of the next, where a byte of a piece is wrong or memory ran out
abbrev pub fault_behind : ℕ → ℕ → LineFault → FeedFault
fault_behind lines at (line_fault.Wrong i) = fault.Text (lines + 1) (at + i + 1)
fault_behind lines at line_fault.Memory = fault.Memory

-- the place of the wrong byte is a number of 64 bits
abbrev pub HasPlace : ℕ → LineFault → Type 0
HasPlace at (line_fault.Wrong i) = at + i + 1 < 2 ^ 64
HasPlace at line_fault.Memory = Unit {0}

-- The spot is where the bytes of the line lead, and these are so many.
pub record StandsInLine (g : Grammar) (lines : ℕ) (ended : Bool) (draft : Draft) (place : Spot) (at : ℕ) : Type 0 where
  pub kept : KeptSpot g draft place
  pub traced : byte_steps g (standing_at lines ended) (On no_items spot.Start) (shown g draft place) ≡ On draft place
  pub at_is : at ≡ length (shown g draft place)
