-- The budget, by the totals after each offer and from the root on.
use Rattle.std.proofs.Common.{◌≡◌, ℕ, zero, suc, ◌+◌, ◌*◌, ◌≤◌, Bool, true, false, cond, List, [], ◌∷◌, ◌++◌, length, refl, sym, ap, ◌∙◌, subst, arith, Option, Some, None}
use Rattle.std.specs.Prelude.{IsNone, is_some, find, flat_map, nat_lt}
use Rattle.std.specs.List.{AllByRecursion, range_with_len}
use Rattle.std.proofs.lemmas.Bool.{or_parts, or_from, ltb-false, le-ltb, false≢true}
use Rattle.lists.proofs.Elements.{recursion_weaker}
use Rattle.job_model.specs.Table.{Table}
use Rattle.sag_step.specs.State.{SystemState}
use Rattle.sag_step.specs.Offers.{Offer, offers}
use Rattle.sag_step.specs.Group.{placed, group}
use Rattle.sag_graph.specs.Levels.{Level, level_at}
use Rattle.sag_graph.specs.Budget.{Spending, exceeds, spendings_into, state_total, edge_total, spending_before, spendings_at, spent}
use Rattle.graph_valid.proofs.FromRootBudget.{Excess, excess_at, first_excess, excess_after, excess}
use Rattle.graph_valid.proofs.SameLevels.{level_zero, level_is_after}
use Rattle.graph_valid.proofs.Counts.{length-edges}

abbrev ex : Spending → Excess
ex s = record { level = s.level; states = s.states; edges = s.edges }

none_found : (p : Spending → Bool) (xs : List Spending) → is_some (find p xs) ≡ false → AllByRecursion (λ x. p x ≡ false) xs
none_found p [] none = tt
none_found p (x ∷ xs) none = at (p x) refl none (none_found p xs)
  where
    at : (b : Bool) → p x ≡ b → is_some (cond b (Some x) (find p xs)) ≡ false → (is_some (find p xs) ≡ false → AllByRecursion (λ x. p x ≡ false) xs) → AllByRecursion (λ x. p x ≡ false) (x ∷ xs)
    at true is none rest = absurd (false≢true (sym none))
    at false is none rest = (is, rest none)

split-all : {X : Type 0} (P : X → Type 0) (xs ys : List X) → AllByRecursion P (xs ++ ys) → AllByRecursion P xs × AllByRecursion P ys
split-all P [] ys all = (tt, all)
split-all P (x ∷ xs) ys all = let rest = split-all P xs ys all.1 in ((all.0, rest.0), rest.1)

-- what is within a budget is within a greater one
exceeds-less : (b c : ℕ) → b ≤ c → (s : Spending) → exceeds b s ≡ false → exceeds c s ≡ false
exceeds-less b c less s within =
    let parts = or_parts (nat_lt b s.states) (nat_lt (16 * b) s.edges) within in
    let states : s.states ≤ c = omega (arith, less, ltb-false b s.states parts.0) in
    let edges : s.edges ≤ 16 * c = omega (arith, less, ltb-false (16 * b) s.edges parts.1) in
    or_from (nat_lt c s.states) (nat_lt (16 * c) s.edges) (le-ltb c s.states states) (le-ltb (16 * c) s.edges edges)

both : (one other : Option Excess) → IsNone one → IsNone other → IsNone (first_excess one other)
both None other none more = more
both (Some x) other none more = absurd (false≢true (sym none))

module _ (table : Table) (m budget : ℕ) where
  into_none : (level : Spending) (states : List SystemState) (os : List Offer) → AllByRecursion (λ x. exceeds budget x ≡ false) (spendings_into level states os) → IsNone (excess_at budget (ex level) states os)
  into_none level states [] all = refl
  into_none level states (o ∷ os) all =
      let now : Excess = record { level = level.level; states = level.states + length (placed states o.next); edges = level.edges + 1 } in
      let next : Spending = record { level = level.level; states = level.states; edges = level.edges + 1 } in
      ap (λ b. is_some (cond b (Some now) (excess_at budget (ex next) (placed states o.next) os))) all.0 ∙ into_none next (placed states o.next) os all.1

  spendings_are : (k : ℕ) → spendings_at table m k ≡ spendings_into (spending_before table m k) [] (offers table (level_at table m k).states)
  unfolding spendings_at
  spendings_are k = refl

  states_more : (k : ℕ) → state_total table m (suc k) ≡ state_total table m k + length (level_at table m (suc k)).states
  unfolding state_total
  states_more k = refl

  edges_more : (k : ℕ) → edge_total table m (suc k) ≡ edge_total table m k + length (level_at table m (suc k)).edges
  unfolding edge_total
  edges_more k = refl

  states_first : state_total table m zero ≡ length (level_at table m zero).states
  unfolding state_total
  states_first = refl

  edges_first : edge_total table m zero ≡ length (level_at table m zero).edges
  unfolding edge_total
  edges_first = refl

  after_none : (n k : ℕ) → AllByRecursion (λ x. exceeds budget x ≡ false) (flat_map (spendings_at table m) (range_with_len k n)) →
      IsNone (excess_after table budget (ex (spending_before table m k)) n (level_at table m k).states)
  after_none zero k all = refl
  after_none (suc n) k all =
      let os = offers table (level_at table m k).states in
      let parts = split-all (λ x. exceeds budget x ≡ false) (spendings_at table m k) (flat_map (spendings_at table m) (range_with_len (k + 1) n)) all in
      let one = into_none (spending_before table m k) [] os (subst (AllByRecursion (λ x. exceeds budget x ≡ false)) (spendings_are k) parts.0) in
      let next : k + 1 ≡ suc k = omega arith in
      let rest : IsNone (excess_after table budget (ex (spending_before table m (suc k))) n (level_at table m (suc k)).states) =
      subst (λ i. IsNone (excess_after table budget (ex (spending_before table m i)) n (level_at table m i).states)) next (after_none n (k + 1) parts.1) in
      let numbers : suc k + 1 ≡ k + 1 + 1 = omega arith in
      let states : state_total table m (suc k) ≡ state_total table m k + length (group os) = states_more k ∙ ap (λ (l : Level). state_total table m k + length l.states) (level_is_after table m k) in
      let edges : edge_total table m (suc k) ≡ edge_total table m k + length os =
      edges_more k ∙ ap (λ (l : Level). edge_total table m k + length l.edges) (level_is_after table m k) ∙ ap (λ c. edge_total table m k + c) (length-edges os []) in
      let moved : IsNone (excess_after table budget (record { level = k + 1 + 1; states = state_total table m k + length (group os); edges = edge_total table m k + length os }) n (group os)) =
      subst (λ o. IsNone o) (λ i. excess_after table budget (record { level = numbers i; states = states i; edges = edges i }) n (level_is_after table m k i).states) rest in
      both (excess_at budget (ex (spending_before table m k)) [] os)
      (excess_after table budget (record { level = k + 1 + 1; states = state_total table m k + length (group os); edges = edge_total table m k + length os }) n (group os)) one moved

  abbrev all_spendings : List Spending
  all_spendings = flat_map (spendings_at table m) (range_with_len 0 (length table.jobs))

  spent_is : (b : ℕ) → spent table m b ≡ find (exceeds b) all_spendings
  unfolding spent
  spent_is b = refl

  -- where a budget is not exceeded, no greater one is
  pub not_over : (less : ℕ) → less ≤ budget → IsNone (spent table m less) → IsNone (excess table m budget)
  not_over less few none =
      let within = none_found (exceeds less) all_spendings (ap is_some (sym (spent_is less)) ∙ none) in
      let all = recursion_weaker (λ x. exceeds less x ≡ false) (λ x. exceeds budget x ≡ false) (exceeds-less less budget few) all_spendings within in
      let states : state_total table m zero ≡ 1 = states_first ∙ ap (λ (l : Level). length l.states) (level_zero table m) in
      let edges : edge_total table m zero ≡ 0 = edges_first ∙ ap (λ (l : Level). length l.edges) (level_zero table m) in
      subst (λ o. IsNone o) (λ i. excess_after table budget (record { level = 1; states = states i; edges = edges i }) (length table.jobs) (level_zero table m i).states)
      (after_none (length table.jobs) 0 all)
