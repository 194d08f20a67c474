-- Which jobs are in the queues' heaps.
--     none_left, some_copies, some_missing     what a job's test says of its copies and of what it lacks
--     counted, counts                          an element that is counted
--     in_heaps, lacks_none                     a job in the heaps is an element of one of them, and lacks no predecessor
use Rattle.std.proofs.Common.{◌≡◌, ℕ, suc, ◌+◌, ◌<◌, ◌≤◌, ◌⊎◌, inl, inr, Bool, true, false, cond, List, [], ◌∷◌, length, get_or, refl, sym, ap, ◌∙◌, arith}
use Rattle.std.specs.Prelude.{Contains, count_by, ◌==◌, ◌&&◌}
use Rattle.std.specs.declared.cmp.Reverse.{Reverse}
use Rattle.std.proofs.lemmas.Bool.{cases_lt, eq-eqb, eqb-true, ne_eqb, cond-true}
use Rattle.std.proofs.lemmas.List.Elements.{All-contains}
use Rattle.std.proofs.lemmas.List.Sums.{sum_by-cons, get_or-le-sum_by}
use Rattle.job_model.specs.Table.{Table}
use Rattle.replay.specs.declared.queues.Arrival.{Arrival}
use Rattle.replay.specs.declared.queues.Urgency.{Urgency}
use Rattle.replay.specs.Queues.{Queued, AreQueued, IsWaiting, IsComing, copies, is_dispatched, missing_of}
use Rattle.lists.proofs.Orderings.{true≢false}

pub no_member : {X : Type 0} (xs : List X) (x : X) → xs ≡ [] → Contains xs x → ⊥
no_member xs x e is_in = omega (arith, is_in.1, ap length e)

-- an element that is counted
pub counted : {X : Type 0} (p : X → Bool) (xs : List X) → 1 ≤ count_by p xs → (x : X) × Contains xs x × (p x ≡ true)
counted {X = X} p [] h = absurd (omega (arith, h))
counted {X = X} p (x ∷ xs) h = by (p x) refl (λ rest. counted p xs rest) (sum_by-cons (λ y. cond (p y) 1 0) x xs)
  where
    by : (b : Bool) → p x ≡ b → (1 ≤ count_by p xs → (y : X) × Contains xs y × (p y ≡ true)) → count_by p (x ∷ xs) ≡ cond b 1 0 + count_by p xs →
        (y : X) × Contains (x ∷ xs) y × (p y ≡ true)
    by true e rest split = (x, (0, omega arith, refl), e)
    by false e rest split =
        let found = rest (omega (arith, h, split)) in
        (found.0, (suc found.1.0, omega (arith, found.1.1), found.1.2), found.2)

pub counts : {X : Type 0} (p : X → Bool) (xs : List X) (x : X) → Contains xs x → p x ≡ true → 1 ≤ count_by p xs
counts p xs x is_in passes =
    let one : ◌≡◌ {A = ℕ} (cond (p (get_or xs is_in.0 x)) 1 0) 1 = cond-true (p (get_or xs is_in.0 x)) 1 0 (ap p is_in.2 ∙ passes) in
    omega (arith, one, get_or-le-sum_by (λ y. cond (p y) 1 0) xs is_in.0 x is_in.1)

and_false : (a : Bool) → (a && false) ≡ false
and_false true = refl
and_false false = refl

-- the test of two numbers at once
pub both_zero : (a b : ℕ) → a ≡ 0 → b ≡ 0 → ((a == 0) && (b == 0)) ≡ true
both_zero a b e f = ap (λ x. x && (b == 0)) (eq-eqb a 0 e) ∙ eq-eqb b 0 f

first_some : (a b : ℕ) → 1 ≤ a → ((a == 0) && (b == 0)) ≡ false
first_some a b some = ap (λ x. x && (b == 0)) (ne_eqb a 0 (λ e. omega (arith, e, some)))

second_some : (a b : ℕ) → 1 ≤ b → ((a == 0) && (b == 0)) ≡ false
second_some a b some = ap (λ x. (a == 0) && x) (ne_eqb b 0 (λ e. omega (arith, e, some))) ∙ and_false (a == 0)

-- a job in the heaps, or one that lacks a predecessor, is not dispatched
pub some_copies : (queued : Queued) (j : ℕ) → 1 ≤ copies queued j → is_dispatched queued j ≡ false
some_copies queued j some = first_some (copies queued j) (missing_of queued.readiness j) some

pub some_missing : (queued : Queued) (j : ℕ) → 1 ≤ missing_of queued.readiness j → is_dispatched queued j ≡ false
some_missing queued j some = second_some (copies queued j) (missing_of queued.readiness j) some

-- a job that is not dispatched, and lacks no predecessor, is in the heaps
pub is_left : (queued : Queued) (j : ℕ) → is_dispatched queued j ≡ false → missing_of queued.readiness j ≡ 0 → 1 ≤ copies queued j
is_left queued j waits lacks_none = by (cases_lt 0 (copies queued j))
  where
    by : (0 < copies queued j) ⊎ (copies queued j ≤ 0) → 1 ≤ copies queued j
    by (inl some) = omega (arith, some)
    by (inr none) = absurd (true≢false (sym (both_zero (copies queued j) (missing_of queued.readiness j) (omega (arith, none)) lacks_none) ∙ waits))

-- job j is an element that waits for a core, or one that comes later
abbrev pub IsIn : Queued → ℕ → Type 0
IsIn queued j = ((e : Reverse Urgency) × Contains queued.waiting e × (e.0.no ≡ j)) ⊎ ((e : Reverse Arrival) × Contains queued.later e × (e.0.no ≡ j))

pub in_heaps : (queued : Queued) (j : ℕ) → 1 ≤ copies queued j → IsIn queued j
in_heaps queued j some = by (cases_lt 0 (count_by (λ e. e.0.no == j) queued.waiting))
  where
    by : (0 < count_by (λ e. e.0.no == j) queued.waiting) ⊎ (count_by (λ e. e.0.no == j) queued.waiting ≤ 0) → IsIn queued j
    by (inl there) = let found = counted (λ e. e.0.no == j) queued.waiting (omega (arith, there)) in inl (found.0, found.1, eqb-true found.0.0.no j found.2)
    by (inr none) = let found = counted (λ e. e.0.no == j) queued.later (omega (arith, none, some)) in inr (found.0, found.1, eqb-true found.0.0.no j found.2)

-- a job in the heaps lacks no predecessor
pub lacks_none : (table : Table) (now : ℕ) (queued : Queued) → AreQueued table now queued → (j : ℕ) → 1 ≤ copies queued j → missing_of queued.readiness j ≡ 0
lacks_none table now queued queues j some = by (in_heaps queued j some)
  where
    by : IsIn queued j → missing_of queued.readiness j ≡ 0
    by (inl found) =
        let waits = All-contains (IsWaiting table now queued.readiness) queued.waiting found.0 queues.waits found.1 in
        ap (missing_of queued.readiness) (sym found.2) ∙ waits.lacks_none
    by (inr found) =
        let comes = All-contains (IsComing table queued.readiness) queued.later found.0 queues.comes found.1 in
        ap (missing_of queued.readiness) (sym found.2) ∙ comes.lacks_none
