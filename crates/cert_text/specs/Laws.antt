-- Laws of readable certificates, over their definition alone, and what the machine behind the reader takes.
--     OneSpelling, OneReading, NoProperPrefix     texts and lists of lines determine each other, and the end
--     SpelledLines                                lines that spell a readable certificate are its lines
--     OneHeld                                     what is held after bytes is a function of the bytes
--     TakesPrefixes                               the machine takes what begins a readable certificate
--     OldLinesFit                                 a line of the old version is one of the new, without last jobs
use Rattle.std.specs.Prelude.{◌≡◌, ℕ, ◌<◌, ◌++◌, ◌↔◌, List, [], IsSome}
use Rattle.std.specs.List.{flat_map, AllByRecursion}
use Rattle.cert_text.specs.declared.line.CertLine.{CertLine}
use Rattle.cert_text.specs.declared.line.CertLine.TheVariants as line
use Rattle.cert_text.specs.declared.grammar.Grammar.{Grammar}
use Rattle.cert_text.specs.Grammar.{first_version, second_version}
use Rattle.cert_text.specs.Spelling.{line_text, FitsLine}
use Rattle.cert_text.specs.Readable.{Readable, IsPrefix}
use Rattle.cert_text.specs.Taken.{Held, HoldsAfter}
use Rattle.cert_text.specs.Machine.{run}

-- a list of lines has one spelling
abbrev pub OneSpelling : Type 0
OneSpelling = (g : Grammar) (a b : List ℕ) (lines : List CertLine)
    → Readable g a lines → Readable g b lines → a ≡ b

-- bytes have one reading
abbrev pub OneReading : Type 0
OneReading = (g : Grammar) (bytes : List ℕ) (ls ms : List CertLine)
    → Readable g bytes ls → Readable g bytes ms → ls ≡ ms

-- no readable certificate is a proper prefix of another
abbrev pub NoProperPrefix : Type 0
NoProperPrefix = (g : Grammar) (a more : List ℕ) (ls ms : List CertLine)
    → Readable g a ls → Readable g (a ++ more) ms → more ≡ []

-- lines that spell a readable certificate are its lines
abbrev pub SpelledLines : Type 0
SpelledLines = (g : Grammar) (bytes : List ℕ) (ls ms : List CertLine) → Readable g bytes ls
    → AllByRecursion (FitsLine g) ms → bytes ≡ flat_map (line_text g) ms → Readable g bytes ms

-- after some bytes only one thing is held
abbrev pub OneHeld : Type 0
OneHeld = (g : Grammar) (bytes : List ℕ) (a b : Held) → HoldsAfter g bytes a → HoldsAfter g bytes b → a ≡ b

-- the machine takes bytes exactly where they are a prefix of a readable certificate
abbrev pub TakesPrefixes : Type 0
TakesPrefixes = (g : Grammar) → 0 < g.most_pairs → (bytes : List ℕ)
    → IsPrefix g bytes ↔ IsSome (run g bytes)

-- a state line has no last jobs
abbrev pub HasNoLast : CertLine → Type 0
HasNoLast (line.State parent job pairs ends last) = last ≡ []
HasNoLast other = Unit {0}

-- a line of the old version has its place in the new one, and no last jobs
abbrev pub OldLinesFit : Type 0
OldLinesFit = (l : CertLine) → FitsLine first_version l → FitsLine second_version l × HasNoLast l
