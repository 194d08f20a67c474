-- Walks along edges: joined, cut, repeated, and kept where there are more edges.
use Rattle.std.proofs.Common.{◌≡◌, ℕ, zero, suc, ◌+◌, ◌≤◌, Bool, true, false, cond, List, [], ◌∷◌, map, eqb, refl, subst, ap, arith}
use Rattle.std.specs.Prelude.{Contains}
use Rattle.std.specs.List.{filter}
use Rattle.std.proofs.lemmas.Bool.{eqb-true, eq-eqb}
use Rattle.job_model.specs.Cycles.{HoldsCycle}
use Rattle.job_model.specs.Neighbours.{sources}
use Rattle.job_model.specs.Table.{Walk}
use Rattle.lists.proofs.Elements.{contains-rest}

pair : (a b i j : ℕ) → a ≡ i → b ≡ j → ◌≡◌ {A = ℕ × ℕ} (a, b) (i, j)
pair a b i j p q = cc

-- an edge leads to j from each of its sources
pub edge-from_source : (edges : List (ℕ × ℕ)) (i j : ℕ) → Contains (sources edges j) i → Contains edges (i, j)
edge-from_source [] i j there = absurd (omega (arith, there.1))
edge-from_source (e ∷ edges) i j there = by (eqb e.1 j) refl there (edge-from_source edges i j)
  where
    by : (b : Bool) → eqb e.1 j ≡ b → Contains (map (λ e. e.0) (cond b (e ∷ filter (λ e. eqb e.1 j) edges) (filter (λ e. eqb e.1 j) edges))) i →
        (Contains (sources edges j) i → Contains edges (i, j)) → Contains (e ∷ edges) (i, j)
    by false f found rest = contains-rest e (i, j) edges (rest found)
    by true f (zero, less, same) rest = (0, omega arith, pair e.0 e.1 i j same (eqb-true e.1 j f))
    by true f (suc k, less, same) rest = contains-rest e (i, j) edges (rest (k, omega (arith, less), same))

-- where an edge leads to j from is among its sources
pub source-from_edge : (edges : List (ℕ × ℕ)) (i j : ℕ) → Contains edges (i, j) → Contains (sources edges j) i
source-from_edge [] i j there = absurd (omega (arith, there.1))
source-from_edge (e ∷ edges) i j (zero, less, is) =
    rw (eq-eqb e.1 j (ap (λ e. e.1) is)) (0, omega arith, ap (λ e. e.0) is)
source-from_edge (e ∷ edges) i j (suc k, less, is) = by (eqb e.1 j) (source-from_edge edges i j (k, omega (arith, less), is))
  where
    by : (b : Bool) → Contains (sources edges j) i → Contains (map (λ e. e.0) (cond b (e ∷ filter (λ e. eqb e.1 j) edges) (filter (λ e. eqb e.1 j) edges))) i
    by false there = there
    by true there = contains-rest e.0 i (sources edges j) there

-- the last edge of a walk
pub walk-last : (edges : List (ℕ × ℕ)) (a b n : ℕ) → Walk edges a b (suc n) → (c : ℕ) × Walk edges a c n × Contains edges (c, b)
walk-last edges a b zero w = (a, refl, rw w.2 at w.1)
walk-last edges a b (suc n) w =
    let rest = walk-last edges w.0 b n w.2 in
    (rest.0, (w.0, w.1, rest.1), rest.2)

-- one walk after another
pub walk-join : (edges : List (ℕ × ℕ)) (a b c m n : ℕ) → Walk edges a b m → Walk edges b c n → Walk edges a c (m + n)
walk-join edges a b c zero n w v = subst (λ k. Walk edges a c k) (plus n) (rw w v)
  where
    plus : (n : ℕ) → n ≡ 0 + n
    plus n = omega arith
walk-join edges a b c (suc m) n w v = subst (λ k. Walk edges a c k) (plus m n) (w.0, w.1, walk-join edges w.0 b c m n w.2 v)
  where
    plus : (m n : ℕ) → suc (m + n) ≡ suc m + n
    plus m n = omega arith

-- a walk round a cycle, so many times
pub walk_round : (edges : List (ℕ × ℕ)) (j n : ℕ) → Walk edges j j (suc n) → (times : ℕ) → (steps : ℕ) × (times ≤ steps) × Walk edges j j steps
walk_round edges j n w zero = (0, omega arith, refl)
walk_round edges j n w (suc times) =
    let rest = walk_round edges j n w times in
    (suc n + rest.0, omega (arith, rest.1), walk-join edges j j j (suc n) rest.0 w rest.2)

-- where each edge of the one list is in the other, so is each walk
module _ (edges more : List (ℕ × ℕ)) (kept : (e : ℕ × ℕ) → Contains edges e → Contains more e) where
  walk-kept : (a b n : ℕ) → Walk edges a b n → Walk more a b n
  walk-kept a b zero w = w
  walk-kept a b (suc n) w = (w.0, kept (a, w.0) w.1, walk-kept w.0 b n w.2)

  pub HoldsCycle-kept : HoldsCycle edges → HoldsCycle more
  HoldsCycle-kept h = record { job = h.job; further = h.further; walk = walk-kept h.job h.job (suc h.further) h.walk }
