-- How long the lines of a graph are.
use Rattle.std.proofs.Common.{◌≡◌, ℕ, ◌+◌, ◌*◌, ◌<◌, ◌≤◌, List, [], ◌∷◌, ◌++◌, length, map, arith, length-append, lit<, lit≤}
use Rattle.std.specs.Prelude.{decimal}
use Rattle.std.specs.List.{AllByRecursion, flat_map}
use Rattle.std.proofs.lemmas.Fmt.{length-decimal-le}
use Rattle.cert_text.specs.declared.line.Pair.{Pair}
use Rattle.cert_text.specs.declared.line.EndOf.{EndOf}
use Rattle.cert_text.specs.declared.line.Mark.{Mark}
use Rattle.cert_text.specs.declared.line.Mark.TheVariants as mark
use Rattle.cert_text.specs.declared.line.CertLine.{CertLine}
use Rattle.cert_text.specs.declared.line.CertLine.TheVariants as line
use Rattle.cert_text.specs.Grammar.{IsCertNumber, second_version}
use Rattle.cert_text.specs.Spelling.{line_text, pair_item_text, end_item_text, last_item_text, FitsPair, FitsEnd, FitsPairs, FitsState, FitsLine}

-- a number of a job
abbrev pub IsFew : ℕ → Type 0
IsFew j = j < 100000

short : (n : ℕ) → IsCertNumber n → length (decimal n) ≤ 19
short n f = length-decimal-le 19 n (lit< tt) (omega (arith, f)) (omega (arith, f))

few_short : (n : ℕ) → IsFew n → length (decimal n) ≤ 5
few_short n f = length-decimal-le 5 n (lit< tt) (omega (arith, f)) (omega (arith, f))

pair_short : (p : Pair) → FitsPair p → length (pair_item_text p) ≤ 40
pair_short p f = simp length-append (omega (arith, short p.lo f.0, short p.hi f.1))

end_short : (e : EndOf) → FitsEnd e → IsFew e.job → length (end_item_text e) ≤ 46
end_short e f few = simp length-append (omega (arith, few_short e.job few, short e.lo f.1, short e.hi f.2))

last_short : (n : ℕ) → IsFew n → length (last_item_text n) ≤ 6
last_short n few = simp length-append (omega (arith, few_short n few))

pairs_short : (ps : List Pair) → AllByRecursion FitsPair ps → length (flat_map pair_item_text ps) ≤ 40 * length ps
pairs_short [] f = omega arith
pairs_short (p ∷ ps) f = omega (arith, length-append (pair_item_text p) (flat_map pair_item_text ps), pair_short p f.0, pairs_short ps f.1)

ends_short : (es : List EndOf) → AllByRecursion FitsEnd es → AllByRecursion (λ (e : EndOf). IsFew e.job) es → length (flat_map end_item_text es) ≤ 46 * length es
ends_short [] f few = omega arith
ends_short (e ∷ es) f few = omega (arith, length-append (end_item_text e) (flat_map end_item_text es), end_short e f.0 few.0, ends_short es f.1 few.1)

lasts_short : (ns : List ℕ) → AllByRecursion IsFew ns → length (flat_map last_item_text ns) ≤ 6 * length ns
lasts_short [] few = omega arith
lasts_short (n ∷ ns) few = omega (arith, length-append (last_item_text n) (flat_map last_item_text ns), last_short n few.0, lasts_short ns few.1)

-- ---- lines

-- a bound of a line's length
abbrev pub weight : CertLine → ℕ
weight (line.State parent job pairs ends last) = 900000
weight (line.Root pairs) = 20000
weight other = 200

abbrev pub IsShort : CertLine → Type 0
IsShort l = length (line_text second_version l) ≤ weight l

pub head_short : (jobs cores : ℕ) → IsCertNumber jobs → IsCertNumber cores → IsShort (line.Head jobs cores)
head_short jobs cores f g = simp length-append (omega (arith, short jobs f, short cores g))

pub level_short : (number count : ℕ) → IsCertNumber number → IsCertNumber count → IsShort (line.Level number count)
level_short number count f g = simp length-append (omega (arith, short number f, short count g))

pub root_short : (pairs : List Pair) → FitsPairs second_version pairs → IsShort (line.Root pairs)
root_short pairs f = simp length-append (omega (arith, pairs_short pairs f.each, f.few))

pub state_short : (parent job : ℕ) (pairs : List Pair) (ends : List EndOf) (last : List ℕ) → FitsState second_version parent job pairs ends last →
    AllByRecursion (λ (e : EndOf). IsFew e.job) ends → AllByRecursion IsFew last → IsShort (line.State parent job pairs ends last)
state_short parent job pairs ends last f few few_last =
    simp length-append (omega (
      arith,
      short parent f.fit_parent,
      short job f.fit_job,
      pairs_short pairs f.fit_pairs.each,
      f.fit_pairs.few,
      ends_short ends f.each_end few,
      f.few_ends,
      lasts_short last few_last,
      f.few_last,
    ))

pub edge_short : (from job est lst to : ℕ) → FitsLine second_version (line.Edge from job est lst to) → IsShort (line.Edge from job est lst to)
edge_short from job est lst to f = simp length-append (omega (arith, short from f.0, short job f.1, short est f.2, short lst f.3, short to f.4))

pub job_short : (number lo hi : ℕ) (m : Mark) → FitsLine second_version (line.Job number lo hi m) → IsShort (line.Job number lo hi m)
job_short number lo hi mark.Ok f = simp length-append (omega (arith, short number f.0, short lo f.1, short hi f.2))
job_short number lo hi mark.Miss f = simp length-append (omega (arith, short number f.0, short lo f.1, short hi f.2))

pub verdict_short : (m : Mark) → IsShort (line.Verdict m)
verdict_short mark.Ok = lit≤ tt
verdict_short mark.Miss = lit≤ tt

pub end_line_short : IsShort line.End
end_line_short = lit≤ tt

-- ---- sums

abbrev pub weights : List CertLine → ℕ
weights [] = 0
weights (l ∷ ls) = weight l + weights ls

pub text_short : (ls : List CertLine) → AllByRecursion IsShort ls → length (flat_map (line_text second_version) ls) ≤ weights ls
text_short [] all = omega arith
text_short (l ∷ ls) all = omega (arith, length-append (line_text second_version l) (flat_map (line_text second_version) ls), all.0, text_short ls all.1)

pub weights-append : (ls ks : List CertLine) → weights (ls ++ ks) ≡ weights ls + weights ks
weights-append [] ks = omega arith
weights-append (l ∷ ls) ks = omega (arith, weights-append ls ks)

pub weights-states : {X : Type 0} (f : X → CertLine) (xs : List X) → ((x : X) → weight (f x) ≡ 900000) → weights (map f xs) ≡ 900000 * length xs
weights-states f [] each = omega arith
weights-states f (x ∷ xs) each = omega (arith, each x, weights-states f xs each)

pub weights-others : {X : Type 0} (f : X → CertLine) (xs : List X) → ((x : X) → weight (f x) ≡ 200) → weights (map f xs) ≡ 200 * length xs
weights-others f [] each = omega arith
weights-others f (x ∷ xs) each = omega (arith, each x, weights-others f xs each)
