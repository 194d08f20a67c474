-- The first offer that exceeds a budget.
--     beyond     it leads beyond each level up to which none does
use Rattle.std.proofs.Common.{◌≡◌, ◌∙◌, ◌∷◌, ◌+◌, ◌<◌, ◌≤◌, ℕ, zero, suc, Bool, true, false, cond, List, [], ap, arith, length, refl, sym}
use Rattle.std.specs.Prelude.{Option, None, Some, find, flat_map, nat_lt}
use Rattle.std.specs.List.{range_with_len}
use Rattle.std.specs.Option.{option_or}
use Rattle.std.proofs.lemmas.List.Folds.{find-append}
use Rattle.job_model.specs.Table.{Table}
use Rattle.sag_step.specs.Group.{placed}
use Rattle.sag_step.specs.Offers.{Offer, offers}
use Rattle.sag_step.specs.State.{SystemState}
use Rattle.sag_graph.specs.Budget.{Spending, exceeds, spending_before, spendings_at, spendings_into, spent}
use Rattle.sag_graph.specs.Levels.{level_at}

-- where it stands among lists that are searched one after another
record FoundIn (p : Spending → Bool) (f : ℕ → List Spending) (a : ℕ) (x : Spending) : Type 0 where
  place : ℕ
  from : a ≤ place
  found : find p (f place) ≡ Some x

found_in : (p : Spending → Bool) (f : ℕ → List Spending) (a n : ℕ) (x : Spending) → find p (flat_map f (range_with_len a n)) ≡ Some x → FoundIn p f a x
found_in p f a zero x is = absurd (cc is)
found_in p f a (suc n) x is =
    at (find p (f a)) refl (sym (find-append p (f a) (flat_map f (range_with_len (a + 1) n))) ∙ is) (found_in p f (a + 1) n x)
  where
    at : (here : Option Spending) → find p (f a) ≡ here → option_or (find p (f a)) (find p (flat_map f (range_with_len (a + 1) n))) ≡ Some x
        → (find p (flat_map f (range_with_len (a + 1) n)) ≡ Some x → FoundIn p f (a + 1) x) → FoundIn p f a x
    at (Some y) here is later = record { place = a; from = omega arith; found = here ∙ sym (ap (λ o. option_or o (find p (flat_map f (range_with_len (a + 1) n)))) here) ∙ is }
    at None here is later =
        let rest = later (sym (ap (λ o. option_or o (find p (flat_map f (range_with_len (a + 1) n)))) here) ∙ is) in
        record { place = rest.place; from = omega (arith, rest.from); found = rest.found }

-- the level that is told is the one that the offers lead to
told-level : (p : Spending → Bool) (os : List Offer) (before : Spending) (states : List SystemState) (x : Spending)
    → find p (spendings_into before states os) ≡ Some x → x.level ≡ before.level
told-level p [] before states x is = absurd (cc is)
told-level p (o ∷ os) before states x is =
    at (p here) is (told-level p os (record { level = before.level; states = before.states; edges = before.edges + 1 }) (placed states o.next) x)
  where
    here : Spending
    here = record { level = before.level; states = before.states + length (placed states o.next); edges = before.edges + 1 }

    at : (b : Bool) → cond b (Some (record { level = before.level; states = before.states + length (placed states o.next); edges = before.edges + 1 }))
        (find p (spendings_into (record { level = before.level; states = before.states; edges = before.edges + 1 }) (placed states o.next) os)) ≡ Some x
        → (find p (spendings_into (record { level = before.level; states = before.states; edges = before.edges + 1 }) (placed states o.next) os) ≡ Some x → x.level ≡ before.level)
        → x.level ≡ before.level
    at true is later = let same : record { level = before.level; states = before.states + length (placed states o.next); edges = before.edges + 1 } ≡ x = cc in ap (λ (y : Spending). y.level) (sym same)
    at false is later = later is

level-at : (table : Table) (m budget k : ℕ) (x : Spending) → find (exceeds budget) (spendings_at table m k) ≡ Some x → x.level ≡ k + 1
unfolding spendings_at
level-at table m budget k x is = told-level (exceeds budget) (offers table (level_at table m k).states) (spending_before table m k) [] x is

not_both : (o : Option Spending) (x : Spending) → o ≡ None → o ≡ Some x → ⊥
not_both o x none some = cc

pub below : (a b : ℕ) → nat_lt a b ≡ true → a < b
below a b is = grind arith

pub above : (a b : ℕ) → nat_lt a b ≡ false → b ≤ a
above a b is = grind arith

-- what is found in a list stands behind those in which nothing is
past : (p : Spending → Bool) (f : ℕ → List Spending) (k place : ℕ) (x : Spending) → ((j : ℕ) → j < k → find p (f j) ≡ None) → find p (f place) ≡ Some x
    → (b : Bool) → nat_lt place k ≡ b → k ≤ place
past p f k place x none found true test = absurd (not_both (find p (f place)) x (none place (below place k test)) found)
past p f k place x none found false test = above place k test

-- The first that exceeds the budget leads beyond each level up to which none does.
pub beyond : (table : Table) (m budget k : ℕ) (x : Spending) → ((j : ℕ) → j < k → find (exceeds budget) (spendings_at table m j) ≡ None)
    → spent table m budget ≡ Some x → k < x.level
unfolding spent
beyond table m budget k x none is =
    let found = found_in (exceeds budget) (spendings_at table m) 0 (length table.jobs) x is in
    let behind = past (exceeds budget) (spendings_at table m) k found.place x none found.found (nat_lt found.place k) refl in
    omega (arith, behind, level-at table m budget found.place x found.found)
