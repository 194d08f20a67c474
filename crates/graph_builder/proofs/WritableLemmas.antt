-- The numbers and lists of states, edges and spans fit their lines.
use Rattle.std.proofs.Common.{◌≡◌, ℕ, zero, suc, get_or, ◌+◌, ◌<◌, ◌≤◌, Bool, true, false, cond, List, [], ◌∷◌, length, map, filter, set, refl, sym, ap, ◌∙◌, subst, arith}
use Rattle.std.specs.Prelude.{nat_le, nat_lt, Option, Some, None, unwrap_or}
use Rattle.std.specs.List.{AllByRecursion, AllZip, list_all}
use Rattle.std.specs.Map.{keys_of}
use Rattle.std.specs.Cmp.Lexicographic.{pointwise}
use Rattle.std.proofs.lemmas.Bool.{and_parts, leb-true, ltb-true, false≢true}
use Rattle.std.proofs.lemmas.List.{length-map}
use Rattle.job_sets.specs.Subset.{is_member}
use Rattle.job_sets.proofs.Additions.{few_members}
use Rattle.job_sets.proofs.Filters.{list_all-filter}
use Rattle.job_sets.proofs.Members.{list_all-member, list_all-from_members}
use Rattle.job_model.specs.declared.limits.TheConstants.{MOST_CORES, MOST_JOBS}
use Rattle.job_model.specs.Table.{Table, IsTable}
use Rattle.lists.specs.Zipped.{zip_with}
use Rattle.lists.proofs.Elements.{recursion_at}
use Rattle.sag_time.specs.Interval.{Interval}
use Rattle.sag_step.specs.State.{HeldState, SystemState, is_tracked, states_of, tracked_jobs}
use Rattle.sag_step.specs.Shape.{IsState, IsUpTo}
use Rattle.cert_text.specs.declared.line.Pair.{Pair}
use Rattle.cert_text.specs.Grammar.{IsCertNumber, most_number, second_version}
use Rattle.cert_text.specs.Spelling.{FitsPair, FitsEnd, FitsPairs, FitsState}
use Rattle.sag_graph.specs.declared.edge.Edge.{Edge}
use Rattle.sag_graph.specs.Lines.{ends_of, no_span, pairs_of}
use Rattle.graph_builder.specs.Fit.{AreEdges, AreReady, IsEdge, IsReady, most_at}
use Rattle.graph_builder.specs.Writing.{IsSpanUpTo, IsTimed, IsWritable}
use Rattle.graph_builder.proofs.FitLemmas.{most-few}
use Rattle.graph_builder.proofs.StateLineLemmas.{end_line}

abbrev pair : ℕ → ℕ → Interval
pair lo hi = record { lo = lo; hi = hi }

abbrev pair_line : Interval → Pair
pair_line s = record { lo = s.lo; hi = s.hi }

abbrev up_to : ℕ → ℕ → Bool
up_to limit t = nat_le t limit

pairs-fit : (limit : ℕ) → limit ≤ most_number → (lo hi : List ℕ) → pointwise nat_le lo hi ≡ true → list_all (up_to limit) hi ≡ true → AllByRecursion FitsPair (map pair_line (zip_with pair lo hi))
pairs-fit limit small [] hi order all = tt
pairs-fit limit small (l ∷ lo) [] order all = tt
pairs-fit limit small (l ∷ lo) (h ∷ hi) order all =
    let up = and_parts (nat_le l h) (pointwise nat_le lo hi) order in
    let below = and_parts (nat_le h limit) (list_all (up_to limit) hi) all in
    let first : l ≤ h = leb-true l h up.0 in
    let second : h ≤ limit = leb-true h limit below.0 in
    ((omega (arith, first, second, small), omega (arith, second, small)), pairs-fit limit small lo hi up.1 below.1)

length-pairs : (lo hi : List ℕ) → pointwise nat_le lo hi ≡ true → (length lo ≡ length hi) × (length (map pair_line (zip_with pair lo hi)) ≡ length lo)
length-pairs [] [] order = (refl, refl)
length-pairs [] (h ∷ hi) order = absurd (false≢true order)
length-pairs (l ∷ lo) [] order = absurd (false≢true order)
length-pairs (l ∷ lo) (h ∷ hi) order =
    let rest = length-pairs lo hi (and_parts (nat_le l h) (pointwise nat_le lo hi) order).1 in
    (ap suc rest.0, ap suc rest.1)

ends-fit : (limit n : ℕ) → limit ≤ most_number → n ≤ most_number → (es : List (ℕ × Interval)) → list_all (λ j. nat_lt j n) (keys_of es) ≡ true → list_all (λ e. nat_le e.1.lo e.1.hi) es ≡ true →
    list_all (λ e. nat_le e.1.hi limit) es ≡ true → AllByRecursion FitsEnd (map end_line es)
ends-fit limit n small few [] below order all = tt
ends-fit limit n small few (e ∷ es) below order all =
    let job = and_parts (nat_lt e.0 n) (list_all (λ j. nat_lt j n) (keys_of es)) below in
    let up = and_parts (nat_le e.1.lo e.1.hi) (list_all (λ e. nat_le e.1.lo e.1.hi) es) order in
    let top = and_parts (nat_le e.1.hi limit) (list_all (λ e. nat_le e.1.hi limit) es) all in
    let a : e.0 < n = ltb-true e.0 n job.0 in
    let b : e.1.lo ≤ e.1.hi = leb-true e.1.lo e.1.hi up.0 in
    let c : e.1.hi ≤ limit = leb-true e.1.hi limit top.0 in
    ((omega (arith, a, few), omega (arith, b, c, small), omega (arith, c, small)), ends-fit limit n small few es job.1 up.1 top.1)

numbers-fit : (n : ℕ) → n ≤ most_number → (xs : List ℕ) → list_all (λ j. nat_lt j n) xs ≡ true → AllByRecursion IsCertNumber xs
numbers-fit n few [] all = tt
numbers-fit n few (x ∷ xs) all =
    let parts = and_parts (nat_lt x n) (list_all (λ j. nat_lt j n) xs) all in
    let below : x < n = ltb-true x n parts.0 in
    (omega (arith, below, few), numbers-fit n few xs parts.1)

length-filter-le : (p : ℕ → Bool) (xs : List ℕ) → length (filter p xs) ≤ length xs
length-filter-le p [] = omega arith
length-filter-le p (x ∷ xs) =
    let rest = length-filter-le p xs in
    elim (p x) as (λ b. length (cond b (x ∷ filter p xs) (filter p xs)) ≤ suc (length xs)) [ true ↦ omega (arith, rest) | false ↦ omega (arith, rest) ]

module _ (table : Table) (m : ℕ) (is_table : IsTable table) (few : m ≤ MOST_CORES) where
  jobs_fit : length table.jobs ≤ most_number
  jobs_fit = omega (arith, is_table.few_jobs)

  module _ (limit : ℕ) (small : limit ≤ most_number) (s : SystemState) (is : IsState table m s) (within : IsUpTo limit s) where
    pairs_fit : FitsPairs second_version (pairs_of s)
    pairs_fit =
        let long = (length-pairs s.low s.high is.shape.in_order).1 in
        record {
          some = omega (arith, long, is.shape.low_count, is.some_core);
          few = omega (arith, long, is.shape.low_count, few);
          each = pairs-fit limit small s.low s.high is.shape.in_order within.high;
        }

    keys_in_range : list_all (λ j. nat_lt j s.set.size) (keys_of s.ends) ≡ true
    keys_in_range =
        ap (list_all (λ j. nat_lt j s.set.size)) is.shape.tracked
        ∙ list_all-filter (λ j. nat_lt j s.set.size) (is_tracked table s.set.members) s.set.members is.set.in_range

    keys_below : list_all (λ j. nat_lt j (length table.jobs)) (keys_of s.ends) ≡ true
    keys_below = ap (λ n. list_all (λ j. nat_lt j n) (keys_of s.ends)) (sym is.of_table) ∙ keys_in_range

    last_below : list_all (λ j. nat_lt j (length table.jobs)) s.last.members ≡ true
    last_below = list_all-from_members (λ j. nat_lt j (length table.jobs)) s.last.members (λ j there.
        list_all-member (λ j. nat_lt j (length table.jobs)) (keys_of s.ends) j keys_below (list_all-member (λ j. is_member j (keys_of s.ends)) s.last.members j is.shape.last_tracked there))

    few_ends : length (ends_of s) ≤ MOST_JOBS
    few_ends =
        let keys : length (keys_of s.ends) ≡ length s.ends = length-map s.ends (λ (e : ℕ × Interval). e.0) in
        let lines : length (ends_of s) ≡ length s.ends = length-map s.ends end_line in
        omega (arith, keys, lines, ap length is.shape.tracked, length-filter-le (is_tracked table s.set.members) s.set.members, few_members s.set is.set, is.of_table, is_table.few_jobs)

    few_last : length s.last.members ≤ MOST_JOBS
    few_last =
        let last = few_members (record { size = length table.jobs; members = s.last.members }) (record { rising = is.shape.last_rises; in_range = last_below }) in
        omega (arith, last, is_table.few_jobs)

    state_fits : (parent job : ℕ) → IsCertNumber parent → IsCertNumber job → FitsState second_version parent job (pairs_of s) (ends_of s) s.last.members
    state_fits parent job parent_fits job_fits = record {
      fit_parent = parent_fits;
      fit_job = job_fits;
      fit_pairs = pairs_fit;
      few_ends = few_ends;
      each_end = ends-fit limit (length table.jobs) small jobs_fit s.ends keys_below is.shape.spans within.ends;
      few_last = few_last;
      each_last = numbers-fit (length table.jobs) jobs_fit s.last.members last_below;
    }

    pub writable : IsWritable s
    writable = record {
      in_pairs = (length-pairs s.low s.high is.shape.in_order).0;
      listed = record { rise = is.shape.last_rises; within = is.shape.last_tracked; in_range = keys_in_range };
      fit_pairs = pairs_fit;
      fits = state_fits;
    }

  pub are_writable : (k : ℕ) → k ≤ length table.jobs → (states : List SystemState) (ts : List ℕ) → AreReady table m (most_at k) states ts → AllByRecursion IsWritable states
  are_writable k le states ts ready = by states ts ready.each
    where
      small : most_at k ≤ most_number
      small = let few_jobs = is_table.few_jobs in most-few k (omega (arith, le, few_jobs))

      by : (ss : List SystemState) (us : List ℕ) → AllZip (IsReady table m (most_at k)) ss us → AllByRecursion IsWritable ss
      by [] us h = tt
      by (s ∷ ss) [] h = absurd h
      by (s ∷ ss) (u ∷ us) h = (writable (most_at k) small s h.0.is_state h.0.in_limit, by ss us h.1)

-- ---- edges

pub are_timed : (table : Table) (limit : ℕ) (edges : List Edge) → limit ≤ most_number → AreEdges table limit edges → AllByRecursion IsTimed edges
are_timed table limit edges small all = by edges all.each
  where
    by : (es : List Edge) → AllByRecursion (IsEdge table limit) es → AllByRecursion IsTimed es
    by [] h = tt
    by (e ∷ es) h = let own = h.0 in let late = own.latest in (record { in_order = own.in_order; fits = omega (arith, late, small) }, by es h.1)

-- ---- one of many, at its place

pub writable_at : (hs : List HeldState) (i : ℕ) (x : HeldState) → AllByRecursion IsWritable (states_of hs) → i < length hs → x ≡ get_or hs i x → IsWritable x.state
writable_at hs i x all lt is = subst (λ (y : HeldState). IsWritable y.state) (sym is) (by hs i all lt)
  where
    by : (hs : List HeldState) (k : ℕ) → AllByRecursion IsWritable (states_of hs) → k < length hs → IsWritable (get_or hs k x).state
    by [] k h lt = absurd (omega arith)
    by (y ∷ hs) zero h lt = h.0
    by (y ∷ hs) (suc k) h lt = by hs k h.1 (omega arith)

pub timed_at : (es : List Edge) (i : ℕ) (e : Edge) → AllByRecursion IsTimed es → i < length es → e ≡ get_or es i e → IsTimed e
timed_at es i e all lt is = subst IsTimed (sym is) (recursion_at IsTimed es i e all lt)

pub span_at : (spans : List (Option Interval)) (i : ℕ) (o : Option Interval) (s : Interval) → AllByRecursion (IsSpanUpTo most_number) spans → i < length spans → o ≡ get_or spans i o →
    s ≡ unwrap_or o no_span → s.hi ≤ most_number
span_at spans i o s all lt is own = subst (λ (x : Interval). x.hi ≤ most_number) (sym own) (by o (subst (IsSpanUpTo most_number) (sym is) (recursion_at (IsSpanUpTo most_number) spans i o all lt)))
  where
    by : (o : Option Interval) → IsSpanUpTo most_number o → (unwrap_or o no_span).hi ≤ most_number
    by None h = omega arith
    by (Some x) h = h
