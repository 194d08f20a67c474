-- The ends that are kept are those over the scenarios that were taken.
use Rattle.std.proofs.Common.{◌≡◌, ◌<◌, ◌≤◌, ◌+◌, ℕ, List, [], None, Some, arith, cond, get_or, inl, inr, length, map, max, min, subst, sym}
use Rattle.std.specs.Prelude.{nat_lt, slice_get, slice_index_or}
use Rattle.std.specs.List.{range_with_len}
use Rattle.std.proofs.lemmas.Bool.{cases_lt, le-ltb, lt-ltb}
use Rattle.std.proofs.lemmas.List.FromFn.{get_or-map-range_with_len, length-map-range_with_len}
use Rattle.std.proofs.lemmas.Option.{slice_get-get_or}
use Rattle.job_model.specs.Table.{Table}
use Rattle.run_meaning.specs.declared.places.Place.{Place}
use Rattle.run_meaning.specs.Legal.{Legal}
use Rattle.run_meaning.specs.Ready.{finish_of}
use Rattle.gap_report.specs.declared.inner_ends.InnerEnds.{InnerEnds}
use Rattle.gap_report.specs.GapRows.{no_inner_ends}
use Rattle.gap_report.specs.InnerBounds.{ends_after, with_run}
use Rattle.gap_report.specs.InnerEnds.{AreInnerEnds, HoldInnerEnds, IsGreatestFinish, IsLeastFinish}
use Rattle.gap_report.specs.Laws.{TakesKeepEnds}

module _ (table : Table) (m : ℕ) (trials : ℕ → List (ℕ × ℕ)) (j : ℕ) where
  -- in each legal schedule of the scenario of that place the job finishes at t
  abbrev Finishes : ℕ → ℕ → Type 0
  Finishes k t = (schedule : List Place) → Legal table m (trials k) schedule → finish_of (trials k) schedule j ≡ t

  -- the first scenario
  least_first : (t : ℕ) → Finishes 0 t → IsLeastFinish table m trials 1 j t 0
  least_first t at = record {
    among = omega arith;
    attained = at;
    first = λ k schedule below legal. absurd (omega (arith, below));
    least = λ k schedule below legal.
        let same : k ≡ 0 = omega (arith, below) in
        let finish : finish_of (trials k) schedule j ≡ t = subst (λ n. (s : List Place) → Legal table m (trials n) s → finish_of (trials n) s j ≡ t) (sym same) at schedule legal in
        omega (arith, finish);
  }

  greatest_first : (t : ℕ) → Finishes 0 t → IsGreatestFinish table m trials 1 j t 0
  greatest_first t at = record {
    among = omega arith;
    attained = at;
    first = λ k schedule below legal. absurd (omega (arith, below));
    greatest = λ k schedule below legal.
        let same : k ≡ 0 = omega (arith, below) in
        let finish : finish_of (trials k) schedule j ≡ t = subst (λ n. (s : List Place) → Legal table m (trials n) s → finish_of (trials n) s j ≡ t) (sym same) at schedule legal in
        omega (arith, finish);
  }

  module _ (count : ℕ) (t : ℕ) (at : Finishes count t) where
    -- a finish in the next scenario
    next_finish : (k : ℕ) (schedule : List Place) → k ≡ count → Legal table m (trials k) schedule → finish_of (trials k) schedule j ≡ t
    next_finish k schedule same legal = subst (λ n. (s : List Place) → Legal table m (trials n) s → finish_of (trials n) s j ≡ t) (sym same) at schedule legal

    -- the least of a bound that none falls below, and of the next finish
    least_of : (lo u : ℕ) → u ≤ lo → u ≤ t → ((k : ℕ) (schedule : List Place) → k < count → Legal table m (trials k) schedule → lo ≤ finish_of (trials k) schedule j) →
        (k : ℕ) (schedule : List Place) → k < count + 1 → Legal table m (trials k) schedule → u ≤ finish_of (trials k) schedule j
    least_of lo u below below' least k schedule within legal = elim (cases_lt k count) [
      | inl before ↦ omega (arith, least k schedule before legal, below)
      | inr last ↦ omega (arith, next_finish k schedule (omega (arith, last, within)) legal, below')
    ]

    greatest_of : (hi u : ℕ) → hi ≤ u → t ≤ u → ((k : ℕ) (schedule : List Place) → k < count → Legal table m (trials k) schedule → finish_of (trials k) schedule j ≤ hi) →
        (k : ℕ) (schedule : List Place) → k < count + 1 → Legal table m (trials k) schedule → finish_of (trials k) schedule j ≤ u
    greatest_of hi u above above' greatest k schedule within legal = elim (cases_lt k count) [
      | inl before ↦ omega (arith, greatest k schedule before legal, above)
      | inr last ↦ omega (arith, next_finish k schedule (omega (arith, last, within)) legal, above')
    ]

    least_moves : (lo place : ℕ) → IsLeastFinish table m trials count j lo place → t < lo → IsLeastFinish table m trials (count + 1) j t count
    least_moves lo place old below = record {
      among = omega arith;
      attained = at;
      first = λ k schedule before legal. omega (arith, old.least k schedule before legal, below);
      least = least_of lo t (omega (arith, below)) (omega arith) old.least;
    }

    least_stays : (lo place : ℕ) → IsLeastFinish table m trials count j lo place → lo ≤ t → IsLeastFinish table m trials (count + 1) j lo place
    least_stays lo place old below = record {
      among = omega (arith, old.among);
      attained = old.attained;
      first = old.first;
      least = least_of lo lo (omega arith) below old.least;
    }

    greatest_moves : (hi place : ℕ) → IsGreatestFinish table m trials count j hi place → hi < t → IsGreatestFinish table m trials (count + 1) j t count
    greatest_moves hi place old above = record {
      among = omega arith;
      attained = at;
      first = λ k schedule before legal. omega (arith, old.greatest k schedule before legal, above);
      greatest = greatest_of hi t (omega (arith, above)) (omega arith) old.greatest;
    }

    greatest_stays : (hi place : ℕ) → IsGreatestFinish table m trials count j hi place → t ≤ hi → IsGreatestFinish table m trials (count + 1) j hi place
    greatest_stays hi place old above = record {
      among = omega (arith, old.among);
      attained = old.attained;
      first = old.first;
      greatest = greatest_of hi hi (omega arith) above old.greatest;
    }

    least_next : (lo place : ℕ) → IsLeastFinish table m trials count j lo place → IsLeastFinish table m trials (count + 1) j (min lo t) (cond (nat_lt t lo) count place)
    least_next lo place old = elim (cases_lt t lo) [
      | inl below ↦
          let value : t ≡ min lo t = omega (arith, below) in
          subst (λ p. IsLeastFinish table m trials (count + 1) j (min lo t) (cond p count place)) (sym (lt-ltb t lo below))
          (subst (λ v. IsLeastFinish table m trials (count + 1) j v count) value (least_moves lo place old below))
      | inr above ↦
          let value : lo ≡ min lo t = omega (arith, above) in
          subst (λ p. IsLeastFinish table m trials (count + 1) j (min lo t) (cond p count place)) (sym (le-ltb t lo above))
          (subst (λ v. IsLeastFinish table m trials (count + 1) j v place) value (least_stays lo place old above))
    ]

    greatest_next : (hi place : ℕ) → IsGreatestFinish table m trials count j hi place → IsGreatestFinish table m trials (count + 1) j (max hi t) (cond (nat_lt hi t) count place)
    greatest_next hi place old = elim (cases_lt hi t) [
      | inl above ↦
          let value : t ≡ max hi t = omega (arith, above) in
          subst (λ p. IsGreatestFinish table m trials (count + 1) j (max hi t) (cond p count place)) (sym (lt-ltb hi t above))
          (subst (λ v. IsGreatestFinish table m trials (count + 1) j v count) value (greatest_moves hi place old above))
      | inr below ↦
          let value : hi ≡ max hi t = omega (arith, below) in
          subst (λ p. IsGreatestFinish table m trials (count + 1) j (max hi t) (cond p count place)) (sym (le-ltb hi t below))
          (subst (λ v. IsGreatestFinish table m trials (count + 1) j v place) value (greatest_stays hi place old below))
    ]

    ends_next : (e : InnerEnds) → AreInnerEnds table m trials count j e → AreInnerEnds table m trials (count + 1) j (ends_after count t (Some e))
    ends_next e old = record { lo = least_next e.lo e.lo_trial old.lo; hi = greatest_next e.hi e.hi_trial old.hi }

  -- the ends of a job once the next scenario is taken
  ends_step : (count t : ℕ) (ends : List InnerEnds) (n : ℕ) → j < n → Finishes count t → (count ≡ 0 → ends ≡ []) → (0 < count → length ends ≡ n) →
      (0 < count → AreInnerEnds table m trials count j (slice_index_or ends j no_inner_ends)) → AreInnerEnds table m trials (count + 1) j (ends_after count t (slice_get ends j))
  ends_step count t ends n below at before after each = elim (cases_lt 0 count) [
    | inl some ↦
        let there : slice_get ends j ≡ Some (get_or ends j no_inner_ends) = slice_get-get_or ends j no_inner_ends (omega (arith, below, after some)) in
        subst (λ o. AreInnerEnds table m trials (count + 1) j (ends_after count t o)) (sym there) (ends_next count t at (get_or ends j no_inner_ends) (each some))
    | inr none ↦
        let zero_is : 0 ≡ count = omega (arith, none) in
        let none_are : ends ≡ [] = before (sym zero_is) in
        let first : Finishes 0 t = subst (λ k. Finishes k t) (sym zero_is) at in
        subst (λ (xs : List InnerEnds). AreInnerEnds table m trials (count + 1) j (ends_after count t (slice_get xs j))) (sym none_are)
        (subst (λ k. AreInnerEnds table m trials (k + 1) j (ends_after k t None)) zero_is (record { lo = least_first t first; hi = greatest_first t first }))
  ]

pub takes_keep_ends : TakesKeepEnds
takes_keep_ends trials old new held takes =
    let table = old.table in
    let scenario = trials old.taken in
    let ends : ℕ → InnerEnds = λ j. ends_after old.taken (finish_of scenario takes.schedule j) (slice_get old.ends j) in
    let after = with_run old scenario takes.schedule in
    let holds : HoldInnerEnds trials after = record {
      before = λ none. absurd (omega (arith, none));
      after = λ some. length-map-range_with_len ends 0 (length table.jobs);
      each = λ j below some.
          let here : ◌≡◌ {A = InnerEnds} (get_or (map ends (range_with_len 0 (length table.jobs))) j no_inner_ends) (ends j) =
          get_or-map-range_with_len ends 0 (length table.jobs) j j no_inner_ends below (omega arith) in
          subst (AreInnerEnds table old.cores trials (old.taken + 1) j) (sym here)
          (ends_step table old.cores trials j old.taken (finish_of scenario takes.schedule j) old.ends (length table.jobs) below
          (λ other legal. takes.in_each other legal j below) held.before held.after (held.each j below));
    } in
    subst (HoldInnerEnds trials) (sym takes.adds) holds
