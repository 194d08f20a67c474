-- The one spelling of each line of a certificate. Here and in the files beside it, g is the version of the format.
--     line_text g line     the bytes of a line, with its LF
--     FitsLine g line      its numbers and lengths are in the version's ranges
use Rattle.std.specs.Prelude.{ℕ, ◌<◌, ◌≤◌, List, [], ◌∷◌, ◌++◌, length, cond, codes, decimal}
use Rattle.std.specs.List.{flat_map, AllByRecursion}
use Rattle.cert_text.specs.declared.line.Pair.{Pair}
use Rattle.cert_text.specs.declared.line.EndOf.{EndOf}
use Rattle.cert_text.specs.declared.line.Mark.{Mark}
use Rattle.cert_text.specs.declared.line.Mark.TheVariants as mark
use Rattle.cert_text.specs.declared.line.CertLine.{CertLine}
use Rattle.cert_text.specs.declared.line.CertLine.TheVariants as line
use Rattle.cert_text.specs.declared.grammar.Grammar.{Grammar}
use Rattle.cert_text.specs.Grammar.{IsCertNumber}

-- an interval of a core's availability, with the space before it
abbrev pub pair_item_text : Pair → List ℕ
pair_item_text p = 32 ∷ [] ++ decimal p.lo ++ 58 ∷ [] ++ decimal p.hi

-- a job's interval of finish times, with the space before it
abbrev pub end_item_text : EndOf → List ℕ
end_item_text e = 32 ∷ [] ++ decimal e.job ++ 58 ∷ [] ++ decimal e.lo ++ 58 ∷ [] ++ decimal e.hi

-- a job that is last on its core, with the space before it
abbrev pub last_item_text : ℕ → List ℕ
last_item_text n = 32 ∷ [] ++ decimal n

-- a mark, with the LF behind it
abbrev pub mark_text : Mark → List ℕ
mark_text mark.Ok = codes "ok\n"
mark_text mark.Miss = codes "miss\n"

-- a head line up to its first number
abbrev pub head_word : Grammar → List ℕ
head_word g = codes "sagcert " ++ g.version ∷ 32 ∷ []

-- a state line up to its pairs
abbrev pub state_front : ℕ → ℕ → List ℕ
state_front parent job = codes "state " ++ decimal parent ++ 32 ∷ [] ++ decimal job

-- a state line up to its first bar
abbrev pub state_pairs : ℕ → ℕ → List Pair → List ℕ
state_pairs parent job pairs = state_front parent job ++ flat_map pair_item_text pairs

-- a state line up to the end of its ends
abbrev pub state_ends : ℕ → ℕ → List Pair → List EndOf → List ℕ
state_ends parent job pairs ends = state_pairs parent job pairs ++ 32 ∷ [] ++ 124 ∷ [] ++ flat_map end_item_text ends

-- a state line up to the end of its last jobs
abbrev pub state_last : ℕ → ℕ → List Pair → List EndOf → List ℕ → List ℕ
state_last parent job pairs ends last = state_ends parent job pairs ends ++ 32 ∷ [] ++ 124 ∷ [] ++ flat_map last_item_text last

-- a state line up to its LF: its last jobs stand where the version has them
abbrev pub state_line_text : Grammar → ℕ → ℕ → List Pair → List EndOf → List ℕ → List ℕ
state_line_text g parent job pairs ends last = cond g.has_last (state_last parent job pairs ends last) (state_ends parent job pairs ends)

-- the bytes of a line, with its LF
abbrev pub line_text : Grammar → CertLine → List ℕ
line_text g (line.Head jobs cores) = head_word g ++ decimal jobs ++ 32 ∷ [] ++ decimal cores ++ 10 ∷ []
line_text g (line.Level number count) = codes "level " ++ decimal number ++ 32 ∷ [] ++ decimal count ++ 10 ∷ []
line_text g (line.Root pairs) = codes "root" ++ flat_map pair_item_text pairs ++ 10 ∷ []
line_text g (line.State parent job pairs ends last) = state_line_text g parent job pairs ends last ++ 10 ∷ []
line_text g (line.Edge from job est lst to) =
    codes "edge " ++ decimal from ++ 32 ∷ [] ++ decimal job ++ 32 ∷ []
    ++ decimal est ++ 32 ∷ [] ++ decimal lst ++ 32 ∷ [] ++ decimal to ++ 10 ∷ []
line_text g (line.Job number lo hi mark) =
    codes "job " ++ decimal number ++ 32 ∷ [] ++ decimal lo ++ 32 ∷ [] ++ decimal hi ++ 32 ∷ [] ++ mark_text mark
line_text g (line.Verdict mark) = codes "verdict " ++ mark_text mark
line_text g line.End = codes "end\n"

-- both ends of an interval are numbers of a certificate
abbrev pub FitsPair : Pair → Type 0
FitsPair p = IsCertNumber p.lo × IsCertNumber p.hi

-- so are the three numbers of a job's interval
abbrev pub FitsEnd : EndOf → Type 0
FitsEnd e = IsCertNumber e.job × IsCertNumber e.lo × IsCertNumber e.hi

-- the pairs of a root or a state line: one at least, and not too many
pub record FitsPairs (g : Grammar) (pairs : List Pair) : Type 0 where
  pub some : 0 < length pairs
  pub few : length pairs ≤ g.most_pairs
  pub each : AllByRecursion FitsPair pairs

-- the numbers and lists of a state line
pub record FitsState (g : Grammar) (parent job : ℕ) (pairs : List Pair) (ends : List EndOf) (last : List ℕ) : Type 0 where
  pub fit_parent : IsCertNumber parent
  pub fit_job : IsCertNumber job
  pub fit_pairs : FitsPairs g pairs
  pub few_ends : length ends ≤ g.most_items
  pub each_end : AllByRecursion FitsEnd ends
  pub few_last : length last ≤ cond g.has_last g.most_items 0
  pub each_last : AllByRecursion IsCertNumber last

-- its numbers and lengths are in the version's ranges
abbrev pub FitsLine : Grammar → CertLine → Type 0
FitsLine g (line.Head jobs cores) = IsCertNumber jobs × IsCertNumber cores
FitsLine g (line.Level number count) = IsCertNumber number × IsCertNumber count
FitsLine g (line.Root pairs) = FitsPairs g pairs
FitsLine g (line.State parent job pairs ends last) = FitsState g parent job pairs ends last
FitsLine g (line.Edge from job est lst to) = IsCertNumber from × IsCertNumber job × IsCertNumber est × IsCertNumber lst × IsCertNumber to
FitsLine g (line.Job number lo hi mark) = IsCertNumber number × IsCertNumber lo × IsCertNumber hi
FitsLine g (line.Verdict mark) = Unit {0}
FitsLine g line.End = Unit {0}
