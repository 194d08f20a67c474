-- The lines of a certificate, taken out as its bytes come. Here g is the version of the format.
--     HasLines g bytes reader lines     these lines were taken out of the bytes, and the reader is what they leave
--     AfterBytes g bytes reader Took    so some lines were, and they were taken
--     IsTextFault g bytes line byte     the bytes are no readable certificate, and this is where they leave off being one
--     ClosesLines g bytes lines end     what the end of the bytes gives
use Rattle.std.specs.Prelude.{ℕ, ◌≡◌, ◌⊎◌, List, ◌++◌, None, Result, Ok, Err}
use Rattle.std.specs.List.{flat_map, AllByRecursion}
use Rattle.cert_text.specs.declared.fault.FeedFault.{FeedFault}
use Rattle.cert_text.specs.declared.fault.FeedFault.TheVariants as fault
use Rattle.cert_text.specs.declared.grammar.Grammar.{Grammar}
use Rattle.cert_text.specs.declared.line.CertLine.{CertLine}
use Rattle.cert_text.specs.Spelling.{line_text, FitsLine}
use Rattle.cert_text.specs.Readable.{Readable}
use Rattle.cert_text.specs.Taken.{Held, Open, Fault, HoldsAfter, HoldsFault}
use Rattle.cert_text.specs.Reader.{HeldReader, Lacks}

-- of a reader that keeps no fault, with the bytes behind its last line
abbrev pub IfGoesOn : Held → (List ℕ → Type 0) → Type 0
IfGoesOn (Open lines rest ended) P = P rest
IfGoesOn (Fault f) P = Unit {0}

-- These lines were taken out of the bytes, none waits, and the reader is what the bytes leave. Behind a fault the lines are
-- some of those before it.
pub record HasLines (g : Grammar) (bytes : List ℕ) (reader : HeldReader) (lines : List CertLine) : Type 0 where
  pub version : reader.grammar ≡ g
  pub none_waits : reader.waiting ≡ None
  pub held : HoldsAfter g bytes reader.held
  pub fit : AllByRecursion (FitsLine g) lines
  pub spelled : IfGoesOn reader.held (λ rest. bytes ≡ flat_map (line_text g) lines ++ rest)

-- some lines were taken out of the bytes, and they were taken as this says
pub record AfterBytes (g : Grammar) (bytes : List ℕ) (reader : HeldReader) (Took : List CertLine → Type 0) : Type 0 where
  pub lines : List CertLine
  pub has : HasLines g bytes reader lines
  pub took : Took lines

-- The bytes are no readable certificate. The place is that of the first byte with which they begin none; or, where they
-- begin one, the place behind the last.
abbrev pub IsTextFault : Grammar → List ℕ → ℕ → ℕ → Type 0
IsTextFault g bytes line byte = HoldsFault g bytes line byte ⊎ Lacks g bytes line byte

-- What the end of the bytes gives: they are a readable certificate of the lines that were taken out, or a text fault.
abbrev pub ClosesLines : Grammar → List ℕ → List CertLine → Result Unit FeedFault → Type 0
ClosesLines g bytes lines (Ok u) = Readable g bytes lines
ClosesLines g bytes lines (Err (fault.Text line byte)) = IsTextFault g bytes line byte
ClosesLines g bytes lines (Err fault.Memory) = ⊥
