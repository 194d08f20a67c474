-- The numbers and lengths of a state's line are within the grammar's ranges.
use Rattle.std.proofs.Common.{◌≡◌, ℕ, suc, ◌+◌, ◌*◌, ◌<◌, ◌≤◌, Bool, true, false, cond, List, [], ◌∷◌, length, map, filter, refl, sym, ap, ◌∙◌, arith}
use Rattle.std.specs.Prelude.{nat_le, nat_lt}
use Rattle.std.specs.List.{AllByRecursion, list_all}
use Rattle.std.specs.Map.{keys_of}
use Rattle.std.specs.Cmp.Lexicographic.{pointwise}
use Rattle.std.proofs.lemmas.Bool.{and_parts, leb-true, ltb-true, false≢true}
use Rattle.std.proofs.lemmas.List.{length-map}
use Rattle.job_sets.specs.Subset.{is_member}
use Rattle.job_sets.proofs.Additions.{few_members}
use Rattle.job_sets.proofs.Filters.{list_all-filter}
use Rattle.job_sets.proofs.Members.{list_all-member, list_all-from_members}
use Rattle.job_model.specs.declared.limits.TheConstants.{MOST_ARRIVAL, MOST_COST, MOST_JOBS, MOST_CORES}
use Rattle.job_model.specs.Table.{Table, IsTable}
use Rattle.sag_time.specs.Interval.{Interval}
use Rattle.lists.specs.Zipped.{zip_with}
use Rattle.sag_step.specs.State.{SystemState, is_tracked, tracked_jobs}
use Rattle.sag_step.specs.Shape.{IsState, IsUpTo}
use Rattle.cert_text.specs.declared.line.Pair.{Pair}
use Rattle.cert_text.specs.declared.line.EndOf.{EndOf}
use Rattle.cert_text.specs.Grammar.{IsCertNumber, most_number, second_version}
use Rattle.cert_text.specs.Spelling.{FitsPair, FitsEnd, FitsPairs, FitsState}
use Rattle.sag_graph.specs.Lines.{ends_of}
use Rattle.graph_valid.proofs.FromRootLines.{zipped_pairs}
use Rattle.graph_valid.proofs.Short.{IsFew}

-- no number of a state is above this once so many jobs have started
abbrev pub limit_at : ℕ → ℕ
limit_at k = MOST_ARRIVAL + k * MOST_COST

pub limit-fits : (k : ℕ) → k ≤ MOST_JOBS → limit_at k ≤ most_number
limit-fits k few = omega (arith, few)

pub limit-next : (k : ℕ) → limit_at k + MOST_COST ≡ limit_at (k + 1)
limit-next k = omega arith

pub arrivals : (k : ℕ) → MOST_ARRIVAL ≤ limit_at k
arrivals k = omega arith

abbrev pair : ℕ → ℕ → Pair
pair lo hi = record { lo = lo; hi = hi }

abbrev up_to : ℕ → ℕ → Bool
up_to limit t = nat_le t limit

pairs-fit : (limit : ℕ) → limit ≤ most_number → (lo hi : List ℕ) → pointwise nat_le lo hi ≡ true → list_all (up_to limit) hi ≡ true → AllByRecursion FitsPair (zip_with pair lo hi)
pairs-fit limit small [] hi order all = tt
pairs-fit limit small (l ∷ lo) [] order all = tt
pairs-fit limit small (l ∷ lo) (h ∷ hi) order all =
    let up = and_parts (nat_le l h) (pointwise nat_le lo hi) order in
    let below = and_parts (nat_le h limit) (list_all (up_to limit) hi) all in
    let first : l ≤ h = leb-true l h up.0 in
    let second : h ≤ limit = leb-true h limit below.0 in
    ((omega (arith, first, second, small), omega (arith, second, small)), pairs-fit limit small lo hi up.1 below.1)

length-pairs : (lo hi : List ℕ) → pointwise nat_le lo hi ≡ true → length (zip_with pair lo hi) ≡ length lo
length-pairs [] hi order = refl
length-pairs (l ∷ lo) [] order = absurd (false≢true order)
length-pairs (l ∷ lo) (h ∷ hi) order = ap suc (length-pairs lo hi (and_parts (nat_le l h) (pointwise nat_le lo hi) order).1)

abbrev end_line : ℕ × Interval → EndOf
end_line e = record { job = e.0; lo = e.1.lo; hi = e.1.hi }

ends-fit : (limit n : ℕ) → limit ≤ most_number → n ≤ most_number → (es : List (ℕ × Interval)) → list_all (λ j. nat_lt j n) (keys_of es) ≡ true → list_all (λ e. nat_le e.1.lo e.1.hi) es ≡ true →
    list_all (λ e. nat_le e.1.hi limit) es ≡ true → AllByRecursion FitsEnd (map end_line es)
ends-fit limit n small few [] below order all = tt
ends-fit limit n small few (e ∷ es) below order all =
    let job = and_parts (nat_lt e.0 n) (list_all (λ j. nat_lt j n) (keys_of es)) below in
    let up = and_parts (nat_le e.1.lo e.1.hi) (list_all (λ e. nat_le e.1.lo e.1.hi) es) order in
    let top = and_parts (nat_le e.1.hi limit) (list_all (λ e. nat_le e.1.hi limit) es) all in
    let a : e.0 < n = ltb-true e.0 n job.0 in
    let b : e.1.lo ≤ e.1.hi = leb-true e.1.lo e.1.hi up.0 in
    let c : e.1.hi ≤ limit = leb-true e.1.hi limit top.0 in
    ((omega (arith, a, few), omega (arith, b, c, small), omega (arith, c, small)), ends-fit limit n small few es job.1 up.1 top.1)

numbers-fit : (n : ℕ) → n ≤ most_number → (xs : List ℕ) → list_all (λ j. nat_lt j n) xs ≡ true → AllByRecursion IsCertNumber xs
numbers-fit n few [] all = tt
numbers-fit n few (x ∷ xs) all =
    let parts = and_parts (nat_lt x n) (list_all (λ j. nat_lt j n) xs) all in
    let below : x < n = ltb-true x n parts.0 in
    (omega (arith, below, few), numbers-fit n few xs parts.1)

-- jobs below few numbers have few digits
ends-few : (n : ℕ) → n ≤ 100000 → (es : List (ℕ × Interval)) → list_all (λ j. nat_lt j n) (keys_of es) ≡ true → AllByRecursion (λ (e : EndOf). IsFew e.job) (map end_line es)
ends-few n few [] below = tt
ends-few n few (e ∷ es) below =
    let job = and_parts (nat_lt e.0 n) (list_all (λ j. nat_lt j n) (keys_of es)) below in
    (omega (arith, ltb-true e.0 n job.0, few), ends-few n few es job.1)

numbers-few : (n : ℕ) → n ≤ 100000 → (xs : List ℕ) → list_all (λ j. nat_lt j n) xs ≡ true → AllByRecursion IsFew xs
numbers-few n few [] all = tt
numbers-few n few (x ∷ xs) all =
    let parts = and_parts (nat_lt x n) (list_all (λ j. nat_lt j n) xs) all in
    (omega (arith, ltb-true x n parts.0, few), numbers-few n few xs parts.1)

length-filter-le : (p : ℕ → Bool) (xs : List ℕ) → length (filter p xs) ≤ length xs
length-filter-le p [] = omega arith
length-filter-le p (x ∷ xs) =
    let rest = length-filter-le p xs in
    elim (p x) as (λ b. length (cond b (x ∷ filter p xs) (filter p xs)) ≤ suc (length xs)) [ true ↦ omega (arith, rest) | false ↦ omega (arith, rest) ]

module _ (table : Table) (m : ℕ) (is_table : IsTable table) (few : m ≤ MOST_CORES) where
  jobs_fit : length table.jobs ≤ most_number
  jobs_fit = omega (arith, is_table.few_jobs)

  module _ (limit : ℕ) (small : limit ≤ most_number) (s : SystemState) (is : IsState table m s) (within : IsUpTo limit s) where
    pub pairs_fit : FitsPairs second_version (zipped_pairs s)
    pairs_fit =
        let long = length-pairs s.low s.high is.shape.in_order in
        record {
          some = omega (arith, long, is.shape.low_count, is.some_core);
          few = omega (arith, long, is.shape.low_count, few);
          each = pairs-fit limit small s.low s.high is.shape.in_order within.high;
        }

    keys_below : list_all (λ j. nat_lt j (length table.jobs)) (keys_of s.ends) ≡ true
    keys_below =
        ap (list_all (λ j. nat_lt j (length table.jobs))) is.shape.tracked
        ∙ ap (λ n. list_all (λ j. nat_lt j n) (tracked_jobs table s.set.members)) (sym is.of_table)
        ∙ list_all-filter (λ j. nat_lt j s.set.size) (is_tracked table s.set.members) s.set.members is.set.in_range

    last_below : list_all (λ j. nat_lt j (length table.jobs)) s.last.members ≡ true
    last_below = list_all-from_members (λ j. nat_lt j (length table.jobs)) s.last.members (λ j there.
        list_all-member (λ j. nat_lt j (length table.jobs)) (keys_of s.ends) j keys_below (list_all-member (λ j. is_member j (keys_of s.ends)) s.last.members j is.shape.last_tracked there))

    few_ends : length (ends_of s) ≤ MOST_JOBS
    few_ends =
        let keys : length (keys_of s.ends) ≡ length s.ends = length-map s.ends (λ (e : ℕ × Interval). e.0) in
        let lines : length (ends_of s) ≡ length s.ends = length-map s.ends end_line in
        omega (arith, keys, lines, ap length is.shape.tracked, length-filter-le (is_tracked table s.set.members) s.set.members, few_members s.set is.set, is.of_table, is_table.few_jobs)

    few_last : length s.last.members ≤ MOST_JOBS
    few_last =
        let last = few_members (record { size = length table.jobs; members = s.last.members }) (record { rising = is.shape.last_rises; in_range = last_below }) in
        omega (arith, last, is_table.few_jobs)

    pub state_fits : (parent job : ℕ) → parent ≤ most_number → job < length table.jobs → FitsState second_version parent job (zipped_pairs s) (ends_of s) s.last.members
    state_fits parent job parent_fits is_job = record {
      fit_parent = parent_fits;
      fit_job = omega (arith, is_job, jobs_fit);
      fit_pairs = pairs_fit;
      few_ends = few_ends;
      each_end = ends-fit limit (length table.jobs) small jobs_fit s.ends keys_below is.shape.spans within.ends;
      few_last = few_last;
      each_last = numbers-fit (length table.jobs) jobs_fit s.last.members last_below;
    }

    pub ends_few : AllByRecursion (λ (e : EndOf). IsFew e.job) (ends_of s)
    ends_few = ends-few (length table.jobs) (omega (arith, is_table.few_jobs)) s.ends keys_below

    pub last_few : AllByRecursion IsFew s.last.members
    last_few = numbers-few (length table.jobs) (omega (arith, is_table.few_jobs)) s.last.members last_below
