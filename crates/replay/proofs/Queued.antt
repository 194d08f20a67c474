-- That a move of the jobs that are ready keeps the queues.
use Rattle.std.proofs.Common.{◌≡◌, ℕ, ◌<◌, ◌≤◌, cond, Bool, List, [], ◌∷◌, length, get_or, refl, sym, ◌∙◌, subst, arith, Option, Some, None}
use Rattle.std.specs.Prelude.{All, ◌==◌, IsPermutation, IfSome, IsSome}
use Rattle.std.specs.declared.cmp.Reverse.{Reverse}
use Rattle.std.specs.BinaryHeap.{IsHeap, KeepsHeap, PopsGreatest}
use Rattle.std.proofs.lemmas.List.Elements.{All-cons, All-tail}
use Rattle.std.proofs.lemmas.List.Sorted.{All-permutation, length_permutation, sum_by_pushed, sum_by_popped}
use Rattle.job_model.specs.Table.{Table}
use Rattle.replay.specs.declared.queues.Arrival.{Arrival}
use Rattle.replay.specs.declared.queues.Readiness.{Readiness}
use Rattle.replay.specs.declared.queues.Urgency.{Urgency}
use Rattle.replay.specs.Queues.{Queued, AreQueued, StaysQueued, IsWaiting, IsComing, copies, urgency_of, soonest_first, urgent_first}

-- whether the element is job j
abbrev waits_as : ℕ → Reverse Urgency → Bool
waits_as j e = e.0.no == j

abbrev comes_as : ℕ → Reverse Arrival → Bool
comes_as j e = e.0.no == j

-- what the move of those that are ready keeps
pub record IsMoved (table : Table) (now : ℕ) (old : Queued) (waiting : List (Reverse Urgency)) (later : List (Reverse Arrival)) (readiness : List Readiness) : Type 0 where
  pub by_urgency : IsHeap urgent_first waiting
  pub by_time : IsHeap soonest_first later
  pub are_jobs : All (λ e. e.0.no < length table.jobs) later
  pub stays : StaysQueued table now old (record { waiting = waiting; later = later; readiness = readiness })

module _ (table : Table) (now : ℕ) (old : Queued) (waiting urgent : List (Reverse Urgency)) (later rest : List (Reverse Arrival)) (readiness : List Readiness) (moved : IsMoved table now old waiting later readiness) where
  -- one more job is moved
  IsMoved-one : (next : Arrival) → next.time ≤ now → IsPermutation (record { 0 = urgency_of table next.no } ∷ waiting) urgent → KeepsHeap urgent_first waiting urgent →
      IsPermutation later (record { 0 = next } ∷ rest) → IsHeap soonest_first rest → IsMoved table now old urgent rest readiness
  IsMoved-one next ready pushes keeps pops order = record {
    by_urgency = keeps moved.by_urgency;
    by_time = order;
    are_jobs = All-tail (λ e. e.0.no < length table.jobs) _ _ (All-permutation (λ e. e.0.no < length table.jobs) _ _ pops moved.are_jobs);
    stays = record {
      same = λ j. same j ∙ moved.stays.same j;
      readiness = moved.stays.readiness;
      kept = λ queued. kept (moved.stays.kept queued);
    };
  }
    where
      same : (j : ℕ) → copies (record { waiting = urgent; later = rest; readiness = readiness }) j ≡ copies (record { waiting = waiting; later = later; readiness = readiness }) j
      same j =
          omega (
            arith,
            sum_by_pushed (λ e. cond (waits_as j e) 1 0) (record { 0 = urgency_of table next.no }) waiting urgent pushes,
            sum_by_popped (λ e. cond (comes_as j e) 1 0) (record { 0 = next }) later rest pops,
          )

      kept : AreQueued table now (record { waiting = waiting; later = later; readiness = readiness }) → AreQueued table now (record { waiting = urgent; later = rest; readiness = readiness })
      kept queued =
          let all = All-permutation (IsComing table readiness) _ _ pops queued.comes in
          let head : IsComing table readiness (record { 0 = next }) = all 0 (record { 0 = next }) (omega arith) in
          record {
            waits = All-permutation (IsWaiting table now readiness) _ _ pushes
                (All-cons (IsWaiting table now readiness) _ _ (record { is_job = head.is_job; key = refl; lacks_none = head.lacks_none; ready = omega (arith, head.time, ready) }) queued.waits);
            comes = All-tail (IsComing table readiness) _ _ all;
            once = λ j. omega (arith, same j, queued.once j);
          }

  same_top : (xs : List (Reverse Arrival)) (a b : Reverse Arrival) → 0 < length xs → a ≡ get_or xs 0 a → b ≡ get_or xs 0 b → b ≡ a
  same_top [] a b some p q = absurd (omega (arith, some))
  same_top (x ∷ xs) a b some p q = q ∙ sym p

  pub IsMoved-more : (next : Arrival) → next.time ≤ now → ◌≡◌ {A = Reverse Arrival} (record { 0 = next }) (get_or later 0 (record { 0 = next })) → IsPermutation (record { 0 = urgency_of table next.no } ∷ waiting) urgent → KeepsHeap urgent_first waiting urgent →
      (popped : Option (Reverse Arrival)) → IsSome popped → IfSome popped (λ x. x ≡ get_or later 0 x) → IfSome popped (λ x. IsPermutation later (x ∷ rest)) →
      IfSome popped (λ x. PopsGreatest soonest_first later x rest) → IsMoved table now old urgent rest readiness
  IsMoved-more next ready top pushes keeps (Some x) some is_top pops order =
      let there : 0 < length later = omega (arith, length_permutation _ _ pops) in
      let e : x ≡ record { 0 = next } = same_top later (record { 0 = next }) x there top is_top in
      IsMoved-one next ready pushes keeps (subst (λ y. IsPermutation later (y ∷ rest)) e pops) (order moved.by_time).0
  IsMoved-more next ready top pushes keeps None some is_top pops order = cc
