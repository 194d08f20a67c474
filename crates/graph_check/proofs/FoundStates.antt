-- The state of a line is found exactly where it has the shape of one.
use Rattle.std.proofs.Common.{◌≡◌, ℕ, ◌≤◌, ◌^◌, ◌↔◌, ◌+◌, Bool, true, false, cond, List, [], ◌∷◌, filter, length, map, Option, Some, None, refl, ap, sym, ◌∙◌, subst, arith}
use Rattle.std.specs.Prelude.{nat_le, nat_lt, IfSome, IsSome, IsTrue}
use Rattle.std.specs.List.{list_all, AllByRecursion}
use Rattle.std.proofs.lemmas.Bool.{and_parts, and_from, le-leb}
use Rattle.std.specs.Map.{keys_of}
use Rattle.job_sets.specs.Subset.{Subset, IsSubset, is_member}
use Rattle.job_sets.proofs.Members.{list_all-from_members, list_all-member}
use Rattle.job_model.specs.Table.{Table}
use Rattle.sag_time.specs.Interval.{Interval}
use Rattle.sag_time.specs.Sorted.{is_sorted}
use Rattle.sag_step.specs.declared.TheConstants.{MOST_STEP_TIME, MOST_TIME}
use Rattle.sag_step.specs.State.{SystemState, HeldState, is_tracked}
use Rattle.sag_step.specs.Shape.{HasShape, has_shape, IsUpTo, Shaped}
use Rattle.cert_text.specs.declared.line.Pair.{Pair}
use Rattle.cert_text.specs.declared.line.EndOf.{EndOf}
use Rattle.cert_text.specs.Grammar.{second_version}
use Rattle.cert_text.specs.Spelling.{FitsEnd, FitsPair, FitsPairs}
use Rattle.graph_check.specs.Entries.{state_from}
use Rattle.graph_check.specs.Comings.{AreEnds, FindsState, ends_of_line}
use Rattle.sag_step.proofs.ShapeTest.{has_shape-from, HasShape-from_test}
use Rattle.job_sets.proofs.Filters.{is_rising-filter}
use Rattle.job_sets.proofs.Filters.{list_all-filter}

-- ---- lists of a state

lows-up_to : (limit : ℕ) → 2 ^ 62 ≤ limit + 1 → (pairs : List Pair) → AllByRecursion FitsPair pairs → list_all (λ t. nat_le t limit) (map (λ p. p.lo) pairs) ≡ true
lows-up_to limit big [] fits = refl
lows-up_to limit big (p ∷ pairs) fits =
    and_from (nat_le p.lo limit) (list_all (λ t. nat_le t limit) (map (λ p. p.lo) pairs)) (le-leb p.lo limit (let f = fits.0.0 in omega arith)) (lows-up_to limit big pairs fits.1)

highs-up_to : (limit : ℕ) → 2 ^ 62 ≤ limit + 1 → (pairs : List Pair) → AllByRecursion FitsPair pairs → list_all (λ t. nat_le t limit) (map (λ p. p.hi) pairs) ≡ true
highs-up_to limit big [] fits = refl
highs-up_to limit big (p ∷ pairs) fits =
    and_from (nat_le p.hi limit) (list_all (λ t. nat_le t limit) (map (λ p. p.hi) pairs)) (le-leb p.hi limit (let f = fits.0.1 in omega arith)) (highs-up_to limit big pairs fits.1)

ends-up_to : (limit : ℕ) → 2 ^ 62 ≤ limit + 1 → (ends : List EndOf) → AllByRecursion FitsEnd ends → list_all (λ (e : ℕ × Interval). nat_le e.1.hi limit) (ends_of_line ends) ≡ true
ends-up_to limit big [] fits = refl
ends-up_to limit big (e ∷ ends) fits =
    and_from (nat_le e.hi limit) (list_all (λ (e : ℕ × Interval). nat_le e.1.hi limit) (ends_of_line ends)) (le-leb e.hi limit (let f = fits.0.2 in omega arith))
    (ends-up_to limit big ends fits.1)

-- ---- what rules a state out

refuted : (table : Table) (m : ℕ) (state : SystemState) → (HasShape table m state → ⊥) → has_shape table m state ≡ false
refuted table m state never =
    elim (has_shape table m state) as (λ b. has_shape table m state ≡ b → b ≡ false) [ true ↦ λ e. absurd (never (HasShape-from_test table m state e)) | false ↦ λ e. refl ] refl

module _ (table : Table) (m : ℕ) (members : List ℕ) (pairs : List Pair) (ends : List EndOf) (last : List ℕ) where
  abbrev wanted : SystemState
  wanted = state_from table members pairs ends last

  pub no-low : ¬ IsTrue (is_sorted (map (λ p. p.lo) pairs)) → FindsState table m wanted None
  unfolding FindsState
  no-low never = refuted table m wanted (λ shape. never shape.low_sorted)

  pub no-high : ¬ IsTrue (is_sorted (map (λ p. p.hi) pairs)) → FindsState table m wanted None
  unfolding FindsState
  no-high never = refuted table m wanted (λ shape. never shape.high_sorted)

  ends-of-shape : IsSubset (record { size = length table.jobs; members = members }) → HasShape table m wanted → AreEnds (length table.jobs) (ends_of_line ends)
  ends-of-shape subset shape = record {
    rising = rw shape.tracked (is_rising-filter (is_tracked table members) members subset.rising);
    in_range = rw shape.tracked (list_all-filter (λ j. nat_lt j (length table.jobs)) (is_tracked table members) members subset.in_range);
    spans = shape.spans;
  }

  pub no-ends : IsSubset (record { size = length table.jobs; members = members }) → ¬ AreEnds (length table.jobs) (ends_of_line ends) → FindsState table m wanted None
  unfolding FindsState
  no-ends subset never = refuted table m wanted (λ shape. never (ends-of-shape subset shape))

  -- the last jobs are some of the dispatched
  last-of-shape : IsSubset (record { size = length table.jobs; members = members }) → HasShape table m wanted → IsSubset (record { size = length table.jobs; members = last })
  last-of-shape subset shape =
      let tracked = list_all-filter (λ j. nat_lt j (length table.jobs)) (is_tracked table members) members subset.in_range in
      let keys : list_all (λ j. nat_lt j (length table.jobs)) (keys_of wanted.ends) ≡ true = rw shape.tracked tracked in
      record {
        rising = shape.last_rises;
        in_range = list_all-from_members (λ j. nat_lt j (length table.jobs)) last
            (λ i there. list_all-member (λ j. nat_lt j (length table.jobs)) (keys_of wanted.ends) i keys (list_all-member (λ k. is_member k (keys_of wanted.ends)) last i shape.last_tracked there));
      }

  pub no-last : IsSubset (record { size = length table.jobs; members = members }) → ¬ IsSubset (record { size = length table.jobs; members = last }) → FindsState table m wanted None
  unfolding FindsState
  no-last subset never = refuted table m wanted (λ shape. never (last-of-shape subset shape))

  pub up-to : (limit : ℕ) → 2 ^ 62 ≤ limit + 1 → FitsPairs second_version pairs → AllByRecursion FitsEnd ends → IsUpTo limit wanted
  up-to limit big fits fit_ends = record { low = lows-up_to limit big pairs fits.each; high = highs-up_to limit big pairs fits.each; ends = ends-up_to limit big ends fit_ends }

  -- what a state of these parts is
  pub finds-parts : 1 ≤ m → IsSubset (record { size = length table.jobs; members = members }) → FitsPairs second_version pairs → AllByRecursion FitsEnd ends →
      (room : ℕ) (parts : SystemState) → parts ≡ wanted → (result : Option HeldState) → IfSome result (λ s. s ≡ record { state = parts; room = room }) →
      IsSome result ↔ Shaped table m parts → FindsState table m wanted result
  unfolding FindsState
  finds-parts some subset fits fit_ends room parts is (Some s) told shaped =
      let whole : Shaped table m wanted = subst (Shaped table m) is (shaped.0 refl) in
      record {
        is_state = ap (λ (h : HeldState). h.state) told ∙ is;
        shape = has_shape-from table m wanted whole.is_state.shape;
        fit = record { is_state = whole.is_state; in_limit = up-to MOST_STEP_TIME (omega arith) fits fit_ends };
      }
  finds-parts some subset fits fit_ends room parts is None told shaped =
      refuted table m wanted (λ shape.
      let whole : Shaped table m wanted = record {
        is_state = record { some_core = some; of_table = refl; set = subset; last_size = refl; shape = shape };
        in_limit = up-to MOST_TIME (omega arith) fits fit_ends;
      } in
      let found = shaped.1 (subst (Shaped table m) (sym is) whole) in
      absurd (cc))

-- a set of as many jobs as the table has
pub of-table : (table : Table) (set : Subset) → set.size ≡ length table.jobs → IsSubset set → IsSubset (record { size = length table.jobs; members = set.members })
of-table table set size subset = subst (λ n. IsSubset (record { size = n; members = set.members })) size subset

pub parts-are : (table : Table) (set last_set : Subset) (low high : List ℕ) (items : List (ℕ × Interval)) (pairs : List Pair) (ends : List EndOf) (last : List ℕ) →
    set.size ≡ length table.jobs → low ≡ map (λ p. p.lo) pairs → high ≡ map (λ p. p.hi) pairs → items ≡ ends_of_line ends →
    last_set ≡ record { size = length table.jobs; members = last } →
    ◌≡◌ {A = SystemState} (record { set = set; low = low; high = high; ends = items; last = last_set }) (state_from table set.members pairs ends last)
parts-are table set last_set low high items pairs ends last size low-is high-is items-is last-is = rw (last-is, ← size, low-is, high-is, items-is) refl
