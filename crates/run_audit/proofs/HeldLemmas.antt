-- Who waits at a moment although it need not.
use Rattle.std.proofs.Common.{◌≡◌, ℕ, ◌+◌, ◌<◌, ◌≤◌, ◌⊎◌, inl, inr, Bool, true, false, List, get_or, set, length, refl, sym, ap, ◌∙◌, subst, arith, get_or-set_same, get_or-set_other, Option, Some, None, replicate}
use Rattle.std.specs.Prelude.{IsFalse, IsTrue, ◌↔◌}
use Rattle.std.proofs.Math.ListN.{length-set}
use Rattle.std.proofs.lemmas.List.{get_or-replicate, length-replicate}
use Rattle.std.proofs.lemmas.Bool.{cases_lt, cases_order}
use Rattle.run_audit.specs.declared.entries.Entry.{Entry}
use Rattle.run_audit.specs.Entries.{core_at, entry_at, finish_at, rank_at, start_at}
use Rattle.run_audit.specs.Waits.{IsHeldFree, IsLastStart, IsUnheld, IsRankUpTo, PassesOver, RunsOn, SomeIsIdle}

module _ (entries : List Entry) where
  -- the greatest rank so far
  pub record IsLastOf (t k : ℕ) (last : Option ℕ) : Type 0 where
    pub none : last ≡ None → (i : ℕ) → i < k → ¬ (start_at entries i ≡ t)
    pub some : (rank : ℕ) → last ≡ Some rank →
        ((i : ℕ) × (i < length entries) × (start_at entries i ≡ t) × (rank_at entries i ≡ rank))
        × ((i : ℕ) → i < k → start_at entries i ≡ t → rank_at entries i ≤ rank)

  pub IsLastStart-all : (t k : ℕ) (last : Option ℕ) → length entries ≤ k → IsLastOf t k last → IsLastStart entries t last
  IsLastStart-all t k None all h = λ i is_job. h.none refl i (omega (arith, is_job, all))
  IsLastStart-all t k (Some rank) all h = ((h.some rank refl).0, λ i is_job. (h.some rank refl).1 i (omega (arith, is_job, all)))

  pub IsLastOf-none : (t : ℕ) → IsLastOf t 0 None
  IsLastOf-none t = record { none = λ e i less. absurd (omega (arith, less)); some = λ rank e. cc }

  -- an entry that does not start then, or has no greater rank
  pub IsLastOf-same : (t k : ℕ) (last : Option ℕ) → IsLastOf t k last → (start_at entries k ≡ t → (rank : ℕ) × (last ≡ Some rank) × (rank_at entries k ≤ rank)) → IsLastOf t (k + 1) last
  IsLastOf-same t k last h up = record { none = λ e i less. none e i less (cases_lt i k); some = λ rank e. ((h.some rank e).0, λ i less. some rank e i less (cases_lt i k)) }
    where
      none : last ≡ None → (i : ℕ) → i < k + 1 → (i < k) ⊎ (k ≤ i) → ¬ (start_at entries i ≡ t)
      none e i less (inl was) = h.none e i was
      none e i less (inr here) = λ starts.
          let at : k ≡ i = omega (arith, less, here) in
          let f = up (ap (start_at entries) at ∙ starts) in
          let bad : ◌≡◌ {A = Option ℕ} None (Some f.0) = sym e ∙ f.1 in cc

      some : (rank : ℕ) → last ≡ Some rank → (i : ℕ) → i < k + 1 → (i < k) ⊎ (k ≤ i) → start_at entries i ≡ t → rank_at entries i ≤ rank
      some rank e i less (inl was) starts = (h.some rank e).1 i was starts
      some rank e i less (inr here) starts =
          let at : k ≡ i = omega (arith, less, here) in
          let f = up (ap (start_at entries) at ∙ starts) in
          let same : Some rank ≡ Some f.0 = sym e ∙ f.1 in
          let is : ◌≡◌ {A = ℕ} rank f.0 = cc in
          omega (arith, f.2, is, ap (rank_at entries) at)

  -- an entry of the greatest rank so far
  pub IsLastOf-new : (t k : ℕ) (last : Option ℕ) → IsLastOf t k last → k < length entries → start_at entries k ≡ t → ((rank : ℕ) → last ≡ Some rank → rank ≤ rank_at entries k) → IsLastOf t (k + 1) (Some (rank_at entries k))
  IsLastOf-new t k last h below starts up = record {
    none = λ e. cc;
    some = λ rank e. let is : ◌≡◌ {A = ℕ} (rank_at entries k) rank = cc in ((k, below, starts, is), λ i less starts_i. some rank is i less starts_i (cases_lt i k) last refl);
  }
    where
      some : (rank : ℕ) → rank_at entries k ≡ rank → (i : ℕ) → i < k + 1 → start_at entries i ≡ t → (i < k) ⊎ (k ≤ i) → (o : Option ℕ) → last ≡ o → rank_at entries i ≤ rank
      some rank is i less starts_i (inl was) None e = absurd (h.none e i was starts_i)
      some rank is i less starts_i (inl was) (Some r) e = omega (arith, (h.some r e).1 i was starts_i, up r e, is)
      some rank is i less starts_i (inr here) o e = let at : k ≡ i = omega (arith, less, here) in omega (arith, ap (rank_at entries) at, is)

  -- ---- the busy cores
  pub record AreBusy (m t k : ℕ) (busy : List Bool) : Type 0 where
    pub each_core : length busy ≡ m
    pub there : (c : ℕ) → c < m → get_or busy c false ≡ true → (i : ℕ) × RunsOn entries c t i
    pub all : (i : ℕ) → i < k → start_at entries i ≤ t → t < finish_at entries i → core_at entries i < m → get_or busy (core_at entries i) false ≡ true

  pub AreBusy-none : (m t : ℕ) (busy : List Bool) → busy ≡ replicate m false → AreBusy m t 0 busy
  AreBusy-none m t busy is = record {
    each_core = ap length is ∙ length-replicate m false;
    there = λ c below e. let none : get_or busy c false ≡ false = ap (λ xs. get_or xs c false) is ∙ get_or-replicate m c false false below in cc;
    all = λ i less. absurd (omega (arith, less));
  }

  pub AreBusy-same : (m t k : ℕ) (busy : List Bool) → AreBusy m t k busy → ¬ ((start_at entries k ≤ t) × (t < finish_at entries k)) → AreBusy m t (k + 1) busy
  AreBusy-same m t k busy are not = record {
    each_core = are.each_core;
    there = are.there;
    all = λ i less started unfinished on. by i less started unfinished on (cases_lt i k);
  }
    where
      by : (i : ℕ) → i < k + 1 → start_at entries i ≤ t → t < finish_at entries i → core_at entries i < m → (i < k) ⊎ (k ≤ i) → get_or busy (core_at entries i) false ≡ true
      by i less started unfinished on (inl was) = are.all i was started unfinished on
      by i less started unfinished on (inr here) =
          let e : k ≡ i = omega (arith, less, here) in
          absurd (not (omega (arith, ap (start_at entries) e, started), omega (arith, ap (finish_at entries) e, unfinished)))

  pub AreBusy-new : (m t k : ℕ) (busy : List Bool) → AreBusy m t k busy → k < length entries → core_at entries k < m → start_at entries k ≤ t → t < finish_at entries k →
      AreBusy m t (k + 1) (set busy (core_at entries k) true)
  AreBusy-new m t k busy are below on_core starts ends = record {
    each_core = length-set busy core true ∙ are.each_core;
    there = λ c in_range e. there c in_range e (cases_order c core);
    all = λ i less started unfinished on. all i less started unfinished on (cases_order (core_at entries i) core) (cases_lt i k);
  }
    where
      core : ℕ
      core = core_at entries k

      in_busy : core < length busy
      in_busy = omega (arith, on_core, are.each_core)

      at_core : get_or (set busy core true) core false ≡ true
      at_core = get_or-set_same busy core true false in_busy

      own : RunsOn entries core t k
      own = record { is_job = below; there = refl; started = starts; unfinished = ends }

      there : (c : ℕ) → c < m → get_or (set busy core true) c false ≡ true → (c ≡ core) ⊎ ((c < core) ⊎ (core < c)) → (i : ℕ) × RunsOn entries c t i
      there c in_range e (inl same) = (k, subst (λ x. RunsOn entries x t k) (sym same) own)
      there c in_range e (inr (inl less)) = are.there c in_range (sym (get_or-set_other busy core c true false (λ same. omega (arith, same, less))) ∙ e)
      there c in_range e (inr (inr more)) = are.there c in_range (sym (get_or-set_other busy core c true false (λ same. omega (arith, same, more))) ∙ e)

      all : (i : ℕ) → i < k + 1 → start_at entries i ≤ t → t < finish_at entries i → core_at entries i < m → (core_at entries i ≡ core) ⊎ ((core_at entries i < core) ⊎ (core < core_at entries i)) → (i < k) ⊎ (k ≤ i) →
          get_or (set busy core true) (core_at entries i) false ≡ true
      all i less started unfinished on (inl same) case = ap (λ c. get_or (set busy core true) c false) same ∙ at_core
      all i less started unfinished on (inr other) (inl was) = differs other
        where
          differs : (core_at entries i < core) ⊎ (core < core_at entries i) → get_or (set busy core true) (core_at entries i) false ≡ true
          differs (inl lower) = get_or-set_other busy core (core_at entries i) true false (λ same. omega (arith, same, lower)) ∙ are.all i was started unfinished on
          differs (inr higher) = get_or-set_other busy core (core_at entries i) true false (λ same. omega (arith, same, higher)) ∙ are.all i was started unfinished on
      all i less started unfinished on (inr other) (inr here) = absurd (differs other)
        where
          e : k ≡ i
          e = omega (arith, less, here)

          differs : (core_at entries i < core) ⊎ (core < core_at entries i) → ⊥
          differs (inl lower) = omega (arith, lower, ap (core_at entries) e)
          differs (inr higher) = omega (arith, higher, ap (core_at entries) e)

  pub idle_there : (m t k : ℕ) (busy : List Bool) → AreBusy m t k busy → length entries ≤ k → (c : ℕ) → c < m → get_or busy c false ≡ false → SomeIsIdle entries m t
  idle_there m t k busy are all c in_range e = record {
    core = c;
    in_range = in_range;
    idle = λ i runs. none i runs (are.all i (omega (arith, runs.is_job, all)) runs.started runs.unfinished (omega (arith, runs.there, in_range)));
  }
    where
      none : (i : ℕ) → RunsOn entries c t i → get_or busy (core_at entries i) false ≡ true → ⊥
      none i runs busy_there = let at : get_or busy c false ≡ true = ap (λ x. get_or busy x false) (sym runs.there) ∙ busy_there in cc

  pub none_idle : (m t k : ℕ) (busy : List Bool) → AreBusy m t k busy → ((c : ℕ) → c < length busy → get_or busy c false ≡ true) → ¬ SomeIsIdle entries m t
  none_idle m t k busy are all some =
      let found = are.there some.core some.in_range (all some.core (omega (arith, some.in_range, are.each_core))) in
      some.idle found.0 found.1

  -- ---- the test of one entry
  pub unheld_from : (m t j : ℕ) (idle : Bool) (last : Option ℕ) → IsTrue idle ↔ SomeIsIdle entries m t → IsLastStart entries t last → IsHeldFree (entry_at entries j) t idle last → IsUnheld entries m j t
  unheld_from m t j idle last is_idle is_last free = record { waits = (free.ready, free.later); needless = by free.needless }
    where
      passes : (last : Option ℕ) → IsLastStart entries t last → IsRankUpTo last (rank_at entries j) → PassesOver entries j t
      passes None is_last h = absurd h
      passes (Some rank) is_last h =
          let top = is_last.0 in
          record { by = top.0; is_job = top.1; starts = top.2; not_urgent = omega (arith, h, top.3) }

      by : IsTrue idle ⊎ IsRankUpTo last (rank_at entries j) → SomeIsIdle entries m t ⊎ PassesOver entries j t
      by (inl h) = inl (is_idle.0 h)
      by (inr h) = inr (passes last is_last h)

  pub unheld_to : (m t j : ℕ) (idle : Bool) (last : Option ℕ) → IsTrue idle ↔ SomeIsIdle entries m t → IsLastStart entries t last → IsUnheld entries m j t → IsHeldFree (entry_at entries j) t idle last
  unheld_to m t j idle last is_idle is_last unheld = record { ready = unheld.waits.0; later = unheld.waits.1; needless = by unheld.needless }
    where
      passes : (last : Option ℕ) → IsLastStart entries t last → PassesOver entries j t → IsRankUpTo last (rank_at entries j)
      passes None is_last over = absurd (is_last over.by over.is_job over.starts)
      passes (Some rank) is_last over = omega (arith, over.not_urgent, is_last.1 over.by over.is_job over.starts)

      by : SomeIsIdle entries m t ⊎ PassesOver entries j t → IsTrue idle ⊎ IsRankUpTo last (rank_at entries j)
      by (inl h) = inl (is_idle.1 h)
      by (inr over) = inr (passes last is_last over)

-- the test of the busy cores tells whether one is idle
pub idle_told : (entries : List Entry) (m t k : ℕ) (busy : List Bool) → AreBusy entries m t k busy → length entries ≤ k → (seen : List Bool) → seen ≡ busy → (b : Bool) →
    (IsTrue b → (c : ℕ) × (c < length seen) × (get_or seen c false ≡ false)) → (IsFalse b → (c : ℕ) → c < length seen → get_or seen c false ≡ true) → IsTrue b ↔ SomeIsIdle entries m t
idle_told entries m t k busy are all seen e true there none =
    let found = there refl in (
      λ h. idle_there entries m t k busy are all found.0 (omega (arith, found.1, ap length e, are.each_core)) (ap (λ xs. get_or xs found.0 false) (sym e) ∙ found.2),
      λ some. refl,
    )
idle_told entries m t k busy are all seen e false there none = (
  λ h. cc,
  λ some. absurd (none_idle entries m t k busy are (λ c below. ap (λ xs. get_or xs c false) (sym e) ∙ none refl c (omega (arith, below, ap length e))) some),
)
