-- A step of the old version against one of the format, from a state that lists no last job.
use Rattle.std.proofs.Common.{◌≡◌, ℕ, zero, suc, ◌+◌, ◌≤◌, Bool, true, false, cond, List, [], ◌∷◌, filter, min, refl, ap, sym, ◌∙◌, subst, arith, Less, Equal, Greater, Ordering}
use Rattle.std.specs.Prelude.{nat_le, nat_eq, ◌==◌, ◌&&◌, count_by}
use Rattle.std.specs.Cmp.Lexicographic.{pointwise}
use Rattle.std.specs.Ordering.{nat_cmp, match_ordering}
use Rattle.std.specs.BTreeMap.{insert_entry}
use Rattle.std.proofs.lemmas.Bool.{and_parts, and_from, le-leb, eqb-true, eq-eqb}
use Rattle.job_sets.specs.Subset.{is_member, is_within, with_number}
use Rattle.job_model.specs.Table.{Table, predecessors}
use Rattle.sag_time.specs.Interval.{Interval, covers}
use Rattle.sag_time.specs.Sorted.{after_start, cap_first}
use Rattle.sag_time.proofs.IntervalLaws.{covers-itself}
use Rattle.sag_time.proofs.PairedLists.{pointwise-itself}
use Rattle.start_windows.specs.declared.StartWindow.{StartWindow}
use Rattle.sag_step.specs.State.{SystemState, is_tracked}
use Rattle.sag_step.specs.Next.{cut_end, cut_ends, finish_interval, last_predecessors, next, still_tracked}
use Rattle.sag_step.specs.Widen.{end_covers, same_set, widens}
use Rattle.sag_step.proofs.Widening.{IsWider, end_covers-itself, nat_eq-itself, nat_le-itself, widening_is_transitive, widens-from}
use Rattle.graph_check.specs.Old.{old_next, old_widens}

-- no job is last on its core, so no core is free by the start of another
no-members : (jobs : List ℕ) → count_by (λ i. is_member i []) jobs ≡ 0
no-members [] = refl
no-members (j ∷ jobs) = omega (arith, no-members jobs)

none-capped : (low : List ℕ) (cap : ℕ) (xs : List ℕ) → cap_first low 0 cap xs ≡ xs
none-capped low cap [] = refl
none-capped [] cap (x ∷ xs) = refl
none-capped (l ∷ low) cap (x ∷ xs) = refl

-- ---- ends that are cut are in those that are not

module _ (table : Table) (j lst : ℕ) where
  ended : (b : Bool) (e : ℕ × Interval) → covers e.1 (cond b (record { lo = e.1.lo; hi = min e.1.hi lst }) e.1) ≡ true
  ended true e = and_from (nat_le e.1.lo e.1.lo) (nat_le (min e.1.hi lst) e.1.hi) (nat_le-itself e.1.lo) (le-leb (min e.1.hi lst) e.1.hi (omega arith))
  ended false e = covers-itself e.1

  covers-cut : (e : ℕ × Interval) → end_covers e (cut_end table j lst e) ≡ true
  covers-cut e = and_from (e.0 == e.0) (covers e.1 (cut_end table j lst e).1) (eq-eqb e.0 e.0 refl) (ended (is_member e.0 (predecessors table j)) e)

  all-cut : (es : List (ℕ × Interval)) → pointwise end_covers es (cut_ends table j lst es) ≡ true
  all-cut [] = refl
  all-cut (e ∷ es) = and_from (end_covers e (cut_end table j lst e)) (pointwise end_covers es (cut_ends table j lst es)) (covers-cut e) (all-cut es)

  insert-cut : (finish : Interval) (es : List (ℕ × Interval)) → pointwise end_covers (insert_entry nat_cmp es j finish) (insert_entry nat_cmp (cut_ends table j lst es) j finish) ≡ true
  insert-cut finish [] = and_from (end_covers (j, finish) (j, finish)) true (end_covers-itself (j, finish)) refl
  insert-cut finish (e ∷ es) = at (nat_cmp j e.0) (insert-cut finish es)
    where
      at : (o : Ordering) → pointwise end_covers (insert_entry nat_cmp es j finish) (insert_entry nat_cmp (cut_ends table j lst es) j finish) ≡ true →
          pointwise end_covers (match_ordering o ((j, finish) ∷ e ∷ es) ((e.0, finish) ∷ es) (e ∷ insert_entry nat_cmp es j finish))
          (match_ordering o ((j, finish) ∷ cut_end table j lst e ∷ cut_ends table j lst es) ((e.0, finish) ∷ cut_ends table j lst es) (cut_end table j lst e ∷ insert_entry nat_cmp (cut_ends table j lst es) j finish)) ≡ true
      at Less later = and_from (end_covers (j, finish) (j, finish)) _ (end_covers-itself (j, finish)) (all-cut (e ∷ es))
      at Equal later = and_from (end_covers (e.0, finish) (e.0, finish)) _ (end_covers-itself (e.0, finish)) (all-cut es)
      at Greater later = and_from (end_covers e (cut_end table j lst e)) _ (covers-cut e) later

-- what is left of both by the same numbers
filter-ends : (p : ℕ → Bool) (xs ys : List (ℕ × Interval)) → pointwise end_covers xs ys ≡ true → pointwise end_covers (filter (λ e. p e.0) xs) (filter (λ e. p e.0) ys) ≡ true
filter-ends p [] [] all = refl
filter-ends p [] (y ∷ ys) all = absurd (cc)
filter-ends p (x ∷ xs) [] all = absurd (cc)
filter-ends p (x ∷ xs) (y ∷ ys) all =
    let parts = and_parts (end_covers x y) (pointwise end_covers xs ys) all in
    let same : x.0 ≡ y.0 = eqb-true x.0 y.0 (and_parts (x.0 == y.0) (covers x.1 y.1) parts.0).0 in
    at parts.0 (p x.0) (p y.0) (ap p same) (filter-ends p xs ys parts.1)
  where
    at : end_covers x y ≡ true → (b c : Bool) → b ≡ c → pointwise end_covers (filter (λ e. p e.0) xs) (filter (λ e. p e.0) ys) ≡ true →
        pointwise end_covers (cond b (x ∷ filter (λ e. p e.0) xs) (filter (λ e. p e.0) xs)) (cond c (y ∷ filter (λ e. p e.0) ys) (filter (λ e. p e.0) ys)) ≡ true
    at first true true e later = and_from (end_covers x y) (pointwise end_covers (filter (λ e. p e.0) xs) (filter (λ e. p e.0) ys)) first later
    at first false false e later = later
    at first true false e later = absurd (cc)
    at first false true e later = absurd (cc)

-- ---- the steps

module _ (table : Table) (s : SystemState) (j : ℕ) (window : StartWindow) (none : s.last.members ≡ []) where
  abbrev old : SystemState
  old = old_next table s j window

  abbrev new : SystemState
  new = next table s j window

  no-last : last_predecessors table s.last.members j ≡ 0
  no-last = ap (λ last. last_predecessors table last j) none ∙ no-members (predecessors table j)

  same-high : new.high ≡ old.high
  same-high =
      ap (λ high. after_start window.est (finish_interval table j window).hi high)
      (ap (λ n. cap_first s.low n window.lst s.high) no-last ∙ none-capped s.low window.lst s.high)

  -- the old step allows for all that the new one does
  pub old-is-wider : widens old new ≡ true
  old-is-wider = widens-from old new (record {
    set = nat_eq-itself (with_number j s.set.members);
    low = pointwise-itself nat_le nat_le-itself old.low;
    high = subst (λ high. pointwise nat_le high old.high ≡ true) (sym same-high) (pointwise-itself nat_le nat_le-itself old.high);
    ends = filter-ends (is_tracked table (with_number j s.set.members)) _ _ (insert-cut table j window.lst (finish_interval table j window) s.ends);
    last = refl;
  })

  -- so a state without last jobs that widens the old step widens the new one
  pub widens-by_old : (a : SystemState) → a.last.members ≡ [] → old_widens a old ≡ true → widens a new ≡ true
  widens-by_old a bare wide =
      let within : is_within a.last.members old.last.members ≡ true = rw bare refl in
      widening_is_transitive a old new (and_from (old_widens a old) (is_within a.last.members old.last.members) wide within) old-is-wider
