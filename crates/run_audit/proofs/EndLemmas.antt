-- When cores are free, after one job more.
use Rattle.std.proofs.Common.{◌≡◌, ◌≢◌, ℕ, ◌<◌, ◌≤◌, ◌⊎◌, inl, inr, List, get_or, set, length, max, refl, sym, ap, ◌∙◌, arith, get_or-set_same, get_or-set_other, replicate}
use Rattle.std.proofs.Math.ListN.{length-set}
use Rattle.std.proofs.lemmas.List.{get_or-replicate, length-replicate}
use Rattle.std.proofs.lemmas.Bool.{cases_order}
use Rattle.run_audit.specs.declared.entries.Entry.{Entry}
use Rattle.run_audit.specs.Entries.{core_at, finish_at}
use Rattle.run_audit.specs.Waits.{AreCoreEnds}

module _ (entries : List Entry) (m : ℕ) (done more : ℕ → Type 0) (j : ℕ) (ends : List ℕ) (are : AreCoreEnds entries m done ends)
    (split : (i : ℕ) → more i → done i ⊎ (i ≡ j)) (kept : (i : ℕ) → done i → more i) (own : more j) (on_core : core_at entries j < m) where
  abbrev core : ℕ
  core = core_at entries j

  abbrev new_ends : List ℕ
  new_ends = set ends core (max (get_or ends core 0) (finish_at entries j))

  in_range : core < length ends
  in_range = omega (arith, on_core, are.each_core)

  at_core : get_or new_ends core 0 ≡ max (get_or ends core 0) (finish_at entries j)
  at_core = let h = in_range in get_or-set_same ends core (max (get_or ends core 0) (finish_at entries j)) 0 h

  elsewhere : (c : ℕ) → c ≢ core → get_or new_ends c 0 ≡ get_or ends c 0
  elsewhere c differ = get_or-set_other ends core c (max (get_or ends core 0) (finish_at entries j)) 0 differ

  grows : (c : ℕ) → get_or ends c 0 ≤ get_or new_ends c 0
  grows c = by (cases_order c core)
    where
      other : c ≢ core → get_or ends c 0 ≤ get_or new_ends c 0
      other differ = omega (arith, elsewhere c differ)

      by : (c ≡ core) ⊎ ((c < core) ⊎ (core < c)) → get_or ends c 0 ≤ get_or new_ends c 0
      by (inl e) = rw e (omega (arith, at_core))
      by (inr (inl less)) = other (λ e. omega (arith, e, less))
      by (inr (inr greater)) = other (λ e. omega (arith, e, greater))

  pub AreCoreEnds-more : AreCoreEnds entries m more new_ends
  AreCoreEnds-more = record {
    each_core = length-set ends core (max (get_or ends core 0) (finish_at entries j)) ∙ are.each_core;
    last = λ i is_more below. last i below (split i is_more);
    there = λ c below. there c below (cases_order c core);
  }
    where
      last : (i : ℕ) → core_at entries i < m → done i ⊎ (i ≡ j) → finish_at entries i ≤ get_or new_ends (core_at entries i) 0
      last i below (inl was) = omega (arith, are.last i was below, grows (core_at entries i))
      last i below (inr e) = rw e (omega (arith, at_core))

      found : (c : ℕ) → (get_or ends c 0 ≡ 0) ⊎ ((i : ℕ) × done i × (core_at entries i ≡ c) × (finish_at entries i ≡ get_or ends c 0)) → get_or new_ends c 0 ≡ get_or ends c 0 →
          (get_or new_ends c 0 ≡ 0) ⊎ ((i : ℕ) × more i × (core_at entries i ≡ c) × (finish_at entries i ≡ get_or new_ends c 0))
      found c (inl none) same = inl (same ∙ none)
      found c (inr (i, was, on, is)) same = inr (i, kept i was, on, is ∙ sym same)

      at_own : (get_or ends core 0 ≤ finish_at entries j) ⊎ (finish_at entries j ≤ get_or ends core 0) →
          (get_or new_ends core 0 ≡ 0) ⊎ ((i : ℕ) × more i × (core_at entries i ≡ core) × (finish_at entries i ≡ get_or new_ends core 0))
      at_own (inl later) = inr (j, own, refl, omega (arith, at_core, later))
      at_own (inr earlier) = found core (are.there core on_core) (omega (arith, at_core, earlier))

      at_most : (a b : ℕ) → (a ≤ b) ⊎ (b ≤ a)
      at_most a b = by (cases_order a b)
        where
          by : (a ≡ b) ⊎ ((a < b) ⊎ (b < a)) → (a ≤ b) ⊎ (b ≤ a)
          by (inl e) = inl (omega (arith, e))
          by (inr (inl less)) = inl (omega (arith, less))
          by (inr (inr greater)) = inr (omega (arith, greater))

      there : (c : ℕ) → c < m → (c ≡ core) ⊎ ((c < core) ⊎ (core < c)) → (get_or new_ends c 0 ≡ 0) ⊎ ((i : ℕ) × more i × (core_at entries i ≡ c) × (finish_at entries i ≡ get_or new_ends c 0))
      there c below (inl e) = rw e (at_own (at_most (get_or ends core 0) (finish_at entries j)))
      there c below (inr (inl less)) = found c (are.there c below) (elsewhere c (λ e. omega (arith, e, less)))
      there c below (inr (inr greater)) = found c (are.there c below) (elsewhere c (λ e. omega (arith, e, greater)))

-- at first
pub AreCoreEnds-none : (entries : List Entry) (m : ℕ) (done : ℕ → Type 0) (ends : List ℕ) → ((i : ℕ) → ¬ done i) → ends ≡ replicate m 0 → AreCoreEnds entries m done ends
AreCoreEnds-none entries m done ends none is = record {
  each_core = ap length is ∙ length-replicate m 0;
  last = λ i has below. absurd (none i has);
  there = λ c below. inl (ap (λ xs. get_or xs c 0) is ∙ get_or-replicate m c 0 0 below);
}
