-- What reading a whole edge or state line from a piece says. Where nothing is read so, the machine takes the bytes one by one.
--     ReadsNumber, ReadsField              a number; a number and the byte behind it
--     ReadsPairs, ReadsEnds, ReadsLast     the lists of a state line
--     IsWholeLine                          a line with its LF
use Rattle.std.specs.Prelude.{◌≡◌, ℕ, ◌<◌, ◌≤◌, List, [], true, length, take}
use Rattle.cert_text.specs.declared.grammar.Grammar.{Grammar}
use Rattle.cert_text.specs.declared.line.Pair.{Pair}
use Rattle.cert_text.specs.declared.line.EndOf.{EndOf}
use Rattle.cert_text.specs.declared.line.CertLine.TheVariants as line
use Rattle.cert_text.specs.declared.spot.Standing.{Standing}
use Rattle.cert_text.specs.declared.spot.Standing.TheVariants as standing
use Rattle.cert_text.specs.declared.spot.Draft.{Draft}
use Rattle.cert_text.specs.declared.spot.NumberAt.{NumberAt}
use Rattle.cert_text.specs.declared.spot.NumberAt.TheVariants as place
use Rattle.cert_text.specs.declared.spot.Spot.{Spot}
use Rattle.cert_text.specs.declared.spot.Spot.TheVariants as spot
use Rattle.cert_text.specs.declared.feed.PieceEnd.{PieceEnd}
use Rattle.cert_text.specs.declared.feed.PieceEnd.TheVariants as piece_end
use Rattle.cert_text.specs.Machine.{no_items, Step, On, Whole, is_digit, first_digit, byte_step, byte_steps}

-- the first digit of this number may come
abbrev pub MayBegin : Grammar → Standing → Draft → Spot → NumberAt → Type 0
MayBegin g s d gap p = (b : ℕ) → is_digit b ≡ true → byte_step g s d gap b ≡ first_digit d p b

-- Between two places of a piece stands a number.
abbrev pub ReadsNumber : List ℕ → ℕ → ℕ → ℕ → Type 0
ReadsNumber piece from to n =
    (g : Grammar) (s : Standing) (now : Step) (d : Draft) (gap : Spot) (p : NumberAt) → MayBegin g s d gap p
    → byte_steps g s now (take from piece) ≡ On d gap → byte_steps g s now (take to piece) ≡ On d (spot.Digits p n)

-- Between two places of a piece stand a number and this byte.
abbrev pub ReadsField : List ℕ → ℕ → ℕ → ℕ → ℕ → Type 0
ReadsField piece from to after n =
    (g : Grammar) (s : Standing) (now : Step) (d : Draft) (gap : Spot) (p : NumberAt) → MayBegin g s d gap p
    → byte_steps g s now (take from piece) ≡ On d gap → byte_steps g s now (take to piece) ≡ byte_step g s d (spot.Digits p n) after

-- the items of a state line
abbrev pub state_draft : List Pair → List EndOf → List ℕ → Draft
state_draft pairs ends last = record { pairs = pairs; ends = ends; last = last }

-- Between two places of a piece stand the pairs of a state line, with the first bar.
abbrev pub ReadsPairs : Grammar → List ℕ → ℕ → ℕ → List Pair → Type 0
ReadsPairs g piece from to pairs =
    (s : Standing) (now : Step) (parent job : ℕ) → byte_steps g s now (take from piece) ≡ On no_items (spot.Due (place.PairLo parent job))
    → byte_steps g s now (take to piece) ≡ On (state_draft pairs [] []) (spot.Barred parent job)

-- Between two places of a piece stand the ends of a state line, with the second bar.
abbrev pub ReadsEnds : Grammar → List ℕ → ℕ → ℕ → List EndOf → Type 0
ReadsEnds g piece from to ends =
    (s : Standing) (now : Step) (pairs : List Pair) (parent job : ℕ)
    → byte_steps g s now (take from piece) ≡ On (state_draft pairs [] []) (spot.Barred parent job)
    → byte_steps g s now (take to piece) ≡ On (state_draft pairs ends []) (spot.Closed parent job)

-- Between two places of a piece stand the last jobs of a state line, with its LF.
abbrev pub ReadsLast : Grammar → List ℕ → ℕ → ℕ → List ℕ → Type 0
ReadsLast g piece from to last =
    (s : Standing) (now : Step) (pairs : List Pair) (ends : List EndOf) (parent job : ℕ)
    → byte_steps g s now (take from piece) ≡ On (state_draft pairs ends []) (spot.Closed parent job)
    → byte_steps g s now (take to piece) ≡ Whole (line.State parent job pairs ends last)

-- A whole line is at the beginning of a piece, inside a certificate.
abbrev pub IsWholeLine : Grammar → List ℕ → PieceEnd → Type 0
IsWholeLine g piece (piece_end.Part n) = ⊥
IsWholeLine g piece (piece_end.Line n l) =
    (0 < n) × (n ≤ length piece) × (byte_steps g standing.Inside (On no_items spot.Start) (take n piece) ≡ Whole l)
