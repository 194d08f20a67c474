-- The order in which a command reads its files, and what it comes to.
--     Plan V                       files that are read one after another, and judged, up to a value
--     p >>= q                      q goes on where p accepts; the first refusal ends the whole
--     file_plan kind name limit    the whole file of that name, of at most so many bytes
--     judged R                     a value that R accepts or refuses
--     AreBytesOf m name bytes     these are the bytes of the named file, where the files are known
--     ComesTo plan m v             over the files m the plan comes to v
--     ReadsNext plan m kind name   the plan comes to the reading of that file, all files before it being accepted
use Rattle.std.specs.Prelude.{ℕ, ◌≡◌, ◌⊎◌, List, length, nat_lt, if◌then◌else◌, Result, Ok, Err, None, Some, ⊤}
use Rattle.std.specs.declared.option.Option.{Option}
use Rattle.sag_edge.specs.Contents.{Contents, bytes_at}
use Rattle.sag_texts.specs.declared.fault.FileKind.{FileKind}
use Rattle.sag_texts.specs.declared.fault.Fault.{Fault}
use Rattle.sag_texts.specs.declared.fault.Fault.TheVariants.{TooLong}

-- A value; or a file that is read next, and what follows of its bytes; or something of which a fact holds, and what
-- follows of it.
pub data Plan (V : Type 0) : Type 1 where
  Ends : V → Plan V
  Reads : FileKind → List ℕ → (List ℕ → Plan V) → Plan V
  Judges : (A : Type 0) → (A → Type 0) → (A → Plan V) → Plan V

-- one plan after another: the first refusal ends the whole
infixl 10 ◌>>=◌
abbrev pub ◌>>=◌ : {A B : Type 0} → Plan (Result A Fault) → (A → Plan (Result B Fault)) → Plan (Result B Fault)
(Ends (Ok a)) >>= next = next a
(Ends (Err fault)) >>= next = Ends (Err fault)
(Reads kind name go) >>= next = Reads kind name (λ bytes. go bytes >>= next)
(Judges A Holds go) >>= next = Judges A Holds (λ a. go a >>= next)

-- the whole file of that name, of at most so many bytes
abbrev pub file_plan : FileKind → List ℕ → ℕ → Plan (Result (List ℕ) Fault)
file_plan kind name limit = Reads kind name (λ bytes. Ends (if nat_lt limit (length bytes) then Err (TooLong kind) else Ok bytes))

-- a value that is accepted, or a fault, as the relation says
abbrev pub judged : {A : Type 0} → (Result A Fault → Type 0) → Plan (Result A Fault)
judged {A = A} Holds = Judges (Result A Fault) Holds (λ end. Ends end)

-- these are the bytes of the named file, where the files are known
abbrev pub AreBytesOf : Option Contents → List ℕ → List ℕ → Type 0
AreBytesOf None name bytes = ⊤
AreBytesOf (Some m) name bytes = bytes ≡ bytes_at m name

-- the plan comes to this value, over some bytes for each file, which are those of the files where they are known
abbrev pub ComesTo : {V : Type 0} → Plan V → Option Contents → V → Type 0
ComesTo (Ends v) m w = v ≡ w
ComesTo (Reads kind name go) m w = (bytes : List ℕ) × AreBytesOf m name bytes × ComesTo (go bytes) m w
ComesTo (Judges A Holds go) m w = (a : A) × Holds a × ComesTo (go a) m w

-- the plan comes to the reading of this file, all files before it being accepted
abbrev pub ReadsNext : {V : Type 0} → Plan V → Option Contents → FileKind → List ℕ → Type 0
ReadsNext (Ends v) m kind name = ⊥
ReadsNext (Reads first file go) m kind name =
    ((first ≡ kind) × (file ≡ name)) ⊎ ((bytes : List ℕ) × AreBytesOf m file bytes × ReadsNext (go bytes) m kind name)
ReadsNext (Judges A Holds go) m kind name = (a : A) × Holds a × ReadsNext (go a) m kind name
