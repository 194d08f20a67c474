-- What a reader holds after some bytes of a certificate, as a function of the bytes.
--     after_last_lf bytes      the bytes behind the last LF
--     HasEnded bytes           the last whole line is an end line
--     HoldsOpen, HoldsFault    what the bytes are where they begin a readable certificate, and where they begin none
--     Held                     whole lines, the bytes behind them, and whether the last is End; or a fault
--     HoldsAfter g bytes held       this is held after the bytes
use Rattle.std.specs.Prelude.{ℕ, ◌≡◌, ◌+◌, ◌==◌, ◌↔◌, List, [], ◌∷◌, ◌++◌, length, cond, codes, Bool, IsTrue, count_by}
use Rattle.std.specs.List.{fold}
use Rattle.cert_text.specs.declared.fault.FeedFault.{FeedFault}
use Rattle.cert_text.specs.declared.fault.FeedFault.TheVariants as fault
use Rattle.cert_text.specs.declared.grammar.Grammar.{Grammar}
use Rattle.cert_text.specs.Readable.{IsPrefix}

-- the byte that ends a line
abbrev pub is_lf : ℕ → Bool
is_lf b = b == 10

-- the bytes behind the last LF: all of them, where there is none
abbrev pub after_last_lf : List ℕ → List ℕ
after_last_lf bytes = fold (λ (rest : List ℕ) (b : ℕ). cond (is_lf b) [] (rest ++ b ∷ [])) [] bytes

-- the last whole line is an end line, and nothing stands behind it
abbrev pub HasEnded : List ℕ → Type 0
HasEnded bytes = (front : List ℕ) × (bytes ≡ front ++ codes "\nend\n")

-- Some readable certificate begins with the bytes. They have so many whole lines and these bytes behind them.
pub record HoldsOpen (g : Grammar) (bytes : List ℕ) (lines : ℕ) (rest : List ℕ) (ended : Bool) : Type 0 where
  pub prefix : IsPrefix g bytes
  pub counted : lines ≡ count_by is_lf bytes
  pub rest_is : rest ≡ after_last_lf bytes
  pub end : IsTrue ended ↔ HasEnded bytes

-- No readable certificate begins with the bytes. The place is that of the first byte with which none does: its line
-- and its number in the line, both from 1.
pub record HoldsFault (g : Grammar) (bytes : List ℕ) (line byte : ℕ) : Type 0 where
  pub front : List ℕ
  pub bad : ℕ
  pub more : List ℕ
  pub are : bytes ≡ front ++ bad ∷ more
  pub prefix : IsPrefix g front
  pub first : IsPrefix g (front ++ bad ∷ []) → ⊥
  pub at_line : line ≡ count_by is_lf front + 1
  pub at_byte : byte ≡ length (after_last_lf front) + 1

-- what a reader holds
pub data Held : Type 0 where
  Open : (lines : ℕ) (rest : List ℕ) (ended : Bool) → Held
  Fault : FeedFault → Held

-- This is held after the bytes. Want of memory says nothing of them.
abbrev pub HoldsAfter : Grammar → List ℕ → Held → Type 0
HoldsAfter g bytes (Open lines rest ended) = HoldsOpen g bytes lines rest ended
HoldsAfter g bytes (Fault (fault.Text line byte)) = HoldsFault g bytes line byte
HoldsAfter g bytes (Fault fault.Memory) = ⊥
