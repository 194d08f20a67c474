-- What widens a covering state covers.
use Rattle.std.proofs.Common.{◌≡◌, ℕ, ◌≤◌, true, List, [], ◌∷◌, ap, arith, sym, ◌∙◌, max, subst}
use Rattle.std.specs.Prelude.{nat_le, nat_lt, slice_index, IsTrue, ◌==◌}
use Rattle.std.specs.Cmp.Lexicographic.{pointwise, bytes_decides}
use Rattle.std.proofs.lemmas.Bool.{and_parts, leb-true, le-leb, ltb-true, lt-ltb, eqb-true, false≢true}
use Rattle.std.proofs.lemmas.List.Elements.{All-head, All-tail, All-cons, All-nil}
use Rattle.job_sets.specs.Subset.{is_member}
use Rattle.job_sets.proofs.Members.{list_all-member}
use Rattle.sag_time.specs.Interval.{Interval, holds, covers}
use Rattle.sag_time.proofs.IntervalLaws.{holds-covers}
use Rattle.sag_time.proofs.SortedLists.{pointwise-place}
use Rattle.run_meaning.specs.Ready.{finish_of}
use Rattle.sag_step.specs.Widen.{end_covers}
use Rattle.sag_step.proofs.Widening.{IsWider, IsWider-from_test}
use Rattle.run_cover.specs.Covers.{prefix, core_end, last_start, cores_where}
use Rattle.run_cover.specs.Laws.{WiderCovers}
use Rattle.run_cover.proofs.CoreCounts.{cores_where-mono}
use Rattle.run_cover.proofs.FinishTimes.{AllHold}

-- of each job the wider interval holds what the other does
AllHold-wider : (f : ℕ → ℕ) (es fs : List (ℕ × Interval)) → pointwise end_covers es fs ≡ true → AllHold f fs → AllHold f es
AllHold-wider f [] fs wide all = All-nil (λ e. IsTrue (holds e.1 (f e.0)))
AllHold-wider f (e ∷ es) [] wide all = absurd (false≢true wide)
AllHold-wider f (e ∷ es) (g ∷ gs) wide all =
    let parts = and_parts (end_covers e g) (pointwise end_covers es gs) wide in
    let one = and_parts (e.0 == g.0) (covers e.1 g.1) parts.0 in
    let here : holds g.1 (f g.0) ≡ true = All-head (λ e. IsTrue (holds e.1 (f e.0))) g gs all in
    All-cons (λ e. IsTrue (holds e.1 (f e.0))) e es
    (subst (λ n. IsTrue (holds e.1 (f n))) (sym (eqb-true e.0 g.0 one.0)) (holds-covers e.1 g.1 (f g.0) one.1 here))
    (AllHold-wider f es gs parts.1 (All-tail (λ e. IsTrue (holds e.1 (f e.0))) g gs all))

pub wider_covers : WiderCovers
wider_covers table m scenario schedule count wide state h c =
    let wider : IsWider wide state = IsWider-from_test wide state h in
    let jobs = prefix table schedule count in
    let end = core_end scenario schedule jobs in
    let free = λ (core : ℕ). max (end core) (last_start schedule jobs) in
    record {
      set = λ j. ap (is_member j) ((bytes_decides wide.set.members state.set.members).0 wider.set) ∙ c.set j;
      certain = λ x below.
          let more : cores_where m (λ core. nat_le (end core) (slice_index state.high x)) ≤ cores_where m (λ core. nat_le (end core) (slice_index wide.high x)) =
          cores_where-mono m (λ core. nat_le (end core) (slice_index state.high x)) (λ core. nat_le (end core) (slice_index wide.high x))
          (λ core e. le-leb (end core) (slice_index wide.high x) (omega (arith, leb-true (end core) (slice_index state.high x) e, pointwise-place state.high wide.high x wider.high))) in
          omega (arith, more, c.certain x below);
      possible = λ x below.
          let fewer : cores_where m (λ core. nat_lt (free core) (slice_index wide.low x)) ≤ cores_where m (λ core. nat_lt (free core) (slice_index state.low x)) =
          cores_where-mono m (λ core. nat_lt (free core) (slice_index wide.low x)) (λ core. nat_lt (free core) (slice_index state.low x))
          (λ core e. lt-ltb (free core) (slice_index state.low x) (omega (arith, ltb-true (free core) (slice_index wide.low x) e, pointwise-place wide.low state.low x wider.low))) in
          omega (arith, fewer, c.possible x below);
      tracked = AllHold-wider (finish_of scenario schedule) wide.ends state.ends wider.ends c.tracked;
      last = λ i there. c.last i (list_all-member (λ k. is_member k state.last.members) wide.last.members i wider.last there);
    }
