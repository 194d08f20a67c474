-- The jobs that wait: what is let in, what is dropped, and which is the first.
use Rattle.std.proofs.Common.{◌≡◌, ℕ, zero, suc, ◌+◌, ◌<◌, ◌≤◌, ◌⊎◌, inl, inr, true, false, List, [], ◌∷◌, get_or, length, refl, sym, ap, ◌∙◌, subst, arith, Option, Some, None}
use Rattle.std.specs.Prelude.{All, Contains, IsPermutation, IfSome, IsSome, nat_lt}
use Rattle.std.specs.declared.cmp.Ordering.TheVariants.{Less}
use Rattle.std.specs.declared.cmp.Reverse.{Reverse}
use Rattle.std.specs.BinaryHeap.{IsHeap, IsUpperBound, PopsGreatest}
use Rattle.std.specs.Ordering.{is_lt, nat_cmp, ordering_then}
use Rattle.std.proofs.lemmas.Bool.{cases_lt, cond-true, lt-ltb}
use Rattle.std.proofs.lemmas.List.Elements.{All-cons, All-contains, All-tail}
use Rattle.std.proofs.lemmas.List.Sorted.{All-permutation, Contains-permutation, length_permutation}
use Rattle.lists.proofs.Elements.{recursion_at}
use Rattle.run_audit.specs.declared.entries.Entry.{Entry}
use Rattle.run_audit.specs.declared.waits.Waiter.{Waiter}
use Rattle.run_audit.specs.Entries.{rank_at, ready_at, start_at}
use Rattle.run_audit.specs.Orders.{IsOrder, job_in, time_in}
use Rattle.run_audit.specs.Waits.{Drops, FindsIn, FindsWaiter, HasJob, HoldsBy, HoldsNone, IsWaiter, HasAllReady, Waiting, Waits, most_urgent_first}

true≢false : true ≡ false → ⊥
true≢false e = cc

has_more : (x : Reverse Waiter) (xs ys : List (Reverse Waiter)) (j : ℕ) → IsPermutation (x ∷ xs) ys → HasJob xs j → HasJob ys j
has_more x xs ys j moved (e, (k, below, is), is_no) = (e, Contains-permutation (x ∷ xs) ys e moved (suc k, omega (arith, below), is), is_no)

has_head : (x : Reverse Waiter) (xs ys : List (Reverse Waiter)) → IsPermutation (x ∷ xs) ys → HasJob ys x.0.no
has_head x xs ys moved = (x, Contains-permutation (x ∷ xs) ys x moved (0, omega arith, refl), refl)

has_less : (x : Reverse Waiter) (xs ys : List (Reverse Waiter)) (j : ℕ) → IsPermutation xs (x ∷ ys) → HasJob xs j → (x.0.no ≡ j) ⊎ HasJob ys j
has_less x xs ys j moved (e, there, is_no) = by (Contains-permutation xs (x ∷ ys) e moved there)
  where
    by : Contains (x ∷ ys) e → (x.0.no ≡ j) ⊎ HasJob ys j
    by (zero, below, is) = inl (ap (λ (w : Reverse Waiter). w.0.no) is ∙ is_no)
    by (suc k, below, is) = inr (e, (k, omega (arith, below), is), is_no)

module _ (entries : List Entry) (order : List (ℕ × ℕ)) (is_order : IsOrder (ready_at entries) (length entries) order) where
  -- one more is let in
  pub HoldsBy-more : (now : ℕ) (w : Waiting) (x : Waiter) (more : List (Reverse Waiter)) → HoldsBy entries order now w → w.passed < length order → time_in order w.passed ≤ now →
      x.no ≡ job_in order w.passed → x.rank ≡ rank_at entries x.no → IsPermutation (record { 0 = x } ∷ w.waiting) more →
      HoldsBy entries order now (record { waiting = more; passed = w.passed + 1 })
  HoldsBy-more now w x more holds below early own rank moved = record {
    passed = omega (arith, below);
    ready = λ k less. ready k (cases_lt k w.passed) less;
    held = All-permutation (IsWaiter entries now) (record { 0 = x } ∷ w.waiting) more moved (All-cons (IsWaiter entries now) (record { 0 = x }) w.waiting (record {
      is_job = omega (arith, own, is_order.is_job w.passed below);
      rank = rank;
      ready = omega (arith, ap (ready_at entries) own, is_order.own w.passed below, early);
    }) holds.held);
    all = λ k less later. all k (cases_lt k w.passed) less later;
  }
    where
      ready : (k : ℕ) → (k < w.passed) ⊎ (w.passed ≤ k) → k < w.passed + 1 → time_in order k ≤ now
      ready k (inl was) less = holds.ready k was
      ready k (inr here) less = let e : k ≡ w.passed = omega (arith, here, less) in rw e early

      all : (k : ℕ) → (k < w.passed) ⊎ (w.passed ≤ k) → k < w.passed + 1 → now < start_at entries (job_in order k) → HasJob more (job_in order k)
      all k (inl was) less later = has_more (record { 0 = x }) w.waiting more (job_in order k) moved (holds.all k was later)
      all k (inr here) less later =
          let e : x.no ≡ job_in order k = own ∙ ap (job_in order) (omega (arith, here, less)) in
          subst (HasJob more) e (has_head (record { 0 = x }) w.waiting more moved)

  -- a later moment
  pub HoldsBy-later : (now then : ℕ) (w : Waiting) → HoldsBy entries order now w → now ≤ then → HoldsBy entries order then w
  HoldsBy-later now then w holds from = record {
    passed = holds.passed;
    ready = λ k less. omega (arith, holds.ready k less, from);
    held = λ k d below. let e = holds.held k d below in record { is_job = e.is_job; rank = e.rank; ready = omega (arith, e.ready, from) };
    all = λ k less later. holds.all k less (omega (arith, from, later));
  }

  pub HoldsBy-none : (now : ℕ) (w : Waiting) → HoldsNone w → HoldsBy entries order now w
  HoldsBy-none now w none = record {
    passed = omega (arith, none.first);
    ready = λ k less. absurd (omega (arith, less, none.first));
    held = λ k d below. absurd (omega (arith, below, ap length none.none));
    all = λ k less later. absurd (omega (arith, less, none.first));
  }

  -- whether a job waits is seen among those that are held
  pub FindsWaiter-found : (now : ℕ) (w : Waiting) (found : Option ℕ) → HasAllReady entries order now w → FindsIn entries now w.waiting found → FindsWaiter entries now found
  FindsWaiter-found now w found stands finds = by found finds
    where
      holds : (j : ℕ) → j < length entries → Waits entries j now → HasJob w.waiting j
      holds j is_job waits = at (is_order.place j is_job)
        where
          at : (k : ℕ) × (k < length order) × (job_in order k ≡ j) → HasJob w.waiting j
          at (k, there, is) = pick (cases_lt k w.passed)
            where
              pick : (k < w.passed) ⊎ (w.passed ≤ k) → HasJob w.waiting j
              pick (inl was) = subst (HasJob w.waiting) is (stands.holds.all k was (omega (arith, ap (start_at entries) is, waits.1)))
              pick (inr rest) = absurd (omega (arith, stands.rest k rest there, is_order.own k there, ap (ready_at entries) is, waits.0))

      by : (found : Option ℕ) → FindsIn entries now w.waiting found → FindsWaiter entries now found
      by None finds = λ j is_job waits. finds j (holds j is_job waits) waits.1
      by (Some j) finds = record {
        is_job = finds.is_job;
        waits = (finds.ready, finds.later);
        first = λ i is_job waits. finds.first i (holds i is_job waits) waits.1;
      }

  pub HasAllReady-drops : (now : ℕ) (old new : Waiting) → HasAllReady entries order now old → Drops entries now old new → HasAllReady entries order now new
  HasAllReady-drops now old new stands drops = record {
    holds = record {
      passed = omega (arith, stands.holds.passed, drops.passed);
      ready = λ k less. stands.holds.ready k (omega (arith, less, drops.passed));
      held = drops.held;
      all = λ k less later. drops.kept (job_in order k) (stands.holds.all k (omega (arith, less, drops.passed)) later) later;
    };
    rest = λ k from below. stands.rest k (omega (arith, from, drops.passed)) below;
  }

module _ (entries : List Entry) (now : ℕ) (old : Waiting) where
  pub Drops-none : All (IsWaiter entries now) old.waiting → Drops entries now old old
  Drops-none held = record { passed = refl; held = held; kept = λ j has later. has }

  -- one more is dropped
  Drops-one : (w : Waiting) (x : Reverse Waiter) (rest : List (Reverse Waiter)) → Drops entries now old w → IsPermutation w.waiting (x ∷ rest) → start_at entries x.0.no ≤ now →
      Drops entries now old (record { waiting = rest; passed = w.passed })
  Drops-one w x rest drops moved started = record {
    passed = drops.passed;
    held = All-tail (IsWaiter entries now) x rest (All-permutation (IsWaiter entries now) w.waiting (x ∷ rest) moved drops.held);
    kept = λ j has later. by j later (has_less x w.waiting rest j moved (drops.kept j has later));
  }
    where
      by : (j : ℕ) → now < start_at entries j → (x.0.no ≡ j) ⊎ HasJob rest j → HasJob rest j
      by j later (inl e) = absurd (omega (arith, later, started, ap (start_at entries) e))
      by j later (inr has) = has

  same_top : (xs : List (Reverse Waiter)) (a b : Reverse Waiter) → 0 < length xs → a ≡ get_or xs 0 a → b ≡ get_or xs 0 b → b ≡ a
  same_top [] a b some p q = absurd (omega (arith, some))
  same_top (x ∷ xs) a b some p q = q ∙ sym p

  pub Drops-more : (w : Waiting) (top : Reverse Waiter) (rest : List (Reverse Waiter)) → Drops entries now old w → IsHeap most_urgent_first w.waiting → top ≡ get_or w.waiting 0 top → start_at entries top.0.no ≤ now →
      (popped : Option (Reverse Waiter)) → IsSome popped → IfSome popped (λ x. x ≡ get_or w.waiting 0 x) → IfSome popped (λ x. IsPermutation w.waiting (x ∷ rest)) →
      IfSome popped (λ x. PopsGreatest most_urgent_first w.waiting x rest) →
      IsHeap most_urgent_first rest × Drops entries now old (record { waiting = rest; passed = w.passed })
  Drops-more w top rest drops heap is started (Some x) some is_top moved pops =
      let there : 0 < length w.waiting = omega (arith, length_permutation _ _ moved) in
      let e : x ≡ top = same_top w.waiting top x there is is_top in
      ((pops heap).0, Drops-one w x rest drops moved (omega (arith, started, ap (λ (y : Reverse Waiter). start_at entries y.0.no) e)))
  Drops-more w top rest drops heap is started None some is_top moved pops = cc

  -- nothing is left
  pub FindsIn-none : (w : Waiting) → Drops entries now old w → length w.waiting ≡ 0 → FindsIn entries now old.waiting None
  FindsIn-none w drops empty = λ i has later. none i (drops.kept i has later)
    where
      none : (i : ℕ) → HasJob w.waiting i → ⊥
      none i (e, (k, below, is), is_no) = omega (arith, below, empty)

  rank_up : (a b : Waiter) → is_lt (ordering_then (nat_cmp a.rank b.rank) (nat_cmp a.no b.no)) ≡ false → b.rank ≤ a.rank
  rank_up a b h = by (cases_lt a.rank b.rank)
    where
      by : (a.rank < b.rank) ⊎ (b.rank ≤ a.rank) → b.rank ≤ a.rank
      by (inr less) = less
      by (inl more) =
          let e : nat_cmp a.rank b.rank ≡ Less = cond-true (nat_lt a.rank b.rank) Less _ (lt-ltb a.rank b.rank more) in
          absurd (true≢false (sym (ap (λ o. is_lt (ordering_then o (nat_cmp a.no b.no))) e) ∙ h))

  -- the top starts later
  pub FindsIn-top : (w : Waiting) (top : Reverse Waiter) → Drops entries now old w → Contains w.waiting top → now < start_at entries top.0.no → IsUpperBound most_urgent_first top w.waiting →
      FindsIn entries now old.waiting (Some top.0.no)
  FindsIn-top w top drops is_in later upper =
      let own = All-contains (IsWaiter entries now) w.waiting top drops.held is_in in
      record {
        is_job = own.is_job;
        ready = own.ready;
        later = later;
        first = λ i has starts. first i (drops.kept i has starts);
      }
    where
      first : (i : ℕ) → HasJob w.waiting i → rank_at entries top.0.no ≤ rank_at entries i
      first i (e, (k, below, is), is_no) =
          let own = All-contains (IsWaiter entries now) w.waiting top drops.held is_in in
          let other = All-contains (IsWaiter entries now) w.waiting e drops.held (k, below, is) in
          let up = recursion_at (λ y. is_lt (most_urgent_first top y) ≡ false) w.waiting k e upper below in
          let step : top.0.rank ≤ e.0.rank = rank_up e.0 top.0 (rw is at up) in
          omega (arith, own.rank, other.rank, step, ap (rank_at entries) is_no)
