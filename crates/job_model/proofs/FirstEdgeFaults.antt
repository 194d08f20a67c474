-- Precedence rows have one first broken rule.
use Rattle.std.proofs.Common.{◌≡◌, ◌≢◌, ◌<◌, ◌≤◌, ◌+◌, ◌++◌, ◌∷◌, ◌∙◌, inl, inr, [], ℕ, List, length, arith, refl, sym, ap, subst, length-append}
use Rattle.std.proofs.lemmas.Bool.{cases_lt}
use Rattle.job_model.specs.declared.limits.TheConstants.{MOST_EDGES}
use Rattle.job_model.specs.declared.fault.EdgeFault.{EdgeFault}
use Rattle.job_model.specs.declared.fault.EdgeFault.TheVariants as fault
use Rattle.job_model.specs.Cycles.{HoldsCycle}
use Rattle.job_model.specs.EdgeFaults.{FirstEdgeFault, ReachedEdge}
use Rattle.job_model.proofs.EdgeLemmas.{no-rules}
use Rattle.lists.proofs.Splits.{front-within, fronts-same}

-- the row of this number breaks the rule, after these rows
abbrev Breaks : ℕ → List (ℕ × ℕ) → ℕ × ℕ → EdgeFault → Type 0
Breaks p before here fault.TooManyEdges = ⊥
Breaks p before here (fault.SelfEdge row) = (row ≡ p) × (here.0 ≡ here.1)
Breaks p before here (fault.Cycle row) = (row ≡ p) × (here.0 ≢ here.1) × HoldsCycle (before ++ here ∷ [])
Breaks p before here fault.Memory = ⊥

-- a row that was reached breaks the rule
record BadRow (rows : List (ℕ × ℕ)) (e : EdgeFault) : Type 0 where
  pub row : ℕ
  pub reached : ReachedEdge rows row
  pub breaks : Breaks row reached.before reached.here e

bad-row : (rows : List (ℕ × ℕ)) (e : EdgeFault) → e ≢ fault.Memory → FirstEdgeFault rows e → length rows ≤ MOST_EDGES → BadRow rows e
bad-row rows fault.TooManyEdges other first few = absurd (omega (arith, first, few))
bad-row rows (fault.SelfEdge row) other first few = record { row = row; reached = first.0; breaks = (refl, first.1) }
bad-row rows (fault.Cycle row) other first few = record { row = row; reached = first.0; breaks = (refl, first.1, first.2) }
bad-row rows fault.Memory other first few = absurd (other refl)

-- a row that breaks a rule is the first that does
first-bad : (rows : List (ℕ × ℕ)) (e : EdgeFault) (p : ℕ) (r : ReachedEdge rows p) → Breaks p r.before r.here e → (e ≢ fault.Memory) × FirstEdgeFault rows e
first-bad rows fault.TooManyEdges p r breaks = absurd breaks
first-bad rows (fault.SelfEdge row) p r breaks = ((λ x. cc), subst (λ n. FirstEdgeFault rows (fault.SelfEdge n)) (sym breaks.0) (r, breaks.1))
first-bad rows (fault.Cycle row) p r breaks = ((λ x. cc), subst (λ n. FirstEdgeFault rows (fault.Cycle n)) (sym breaks.0) (r, breaks.1, breaks.2))
first-bad rows fault.Memory p r breaks = absurd breaks

-- the rows before one that was reached break no rule
row-earlier : (rows : List (ℕ × ℕ)) (e f : EdgeFault) (a : BadRow rows e) (b : BadRow rows f) → length a.reached.before < length b.reached.before → ⊥
row-earlier rows e f a b less =
    let r = a.reached in
    let s = b.reached in
    let (tail, is) = front-within r.before r.here r.after s.before s.here s.after (sym r.split ∙ s.split) less in
    let few : length s.before ≤ MOST_EDGES = omega (arith, s.few, ap length s.split, length-append s.before (s.here ∷ s.after)) in
    let within : ReachedEdge s.before a.row = record {
      before = r.before;
      here = r.here;
      after = tail;
      split = is;
      place = r.place;
      few = few;
      kept = r.kept;
    } in
    let (other, first) = first-bad s.before e a.row within a.breaks in
    no-rules s.before e other first (record { few = few; no_cycle = s.kept })

-- a row breaks one rule first
one-break : (p : ℕ) (before : List (ℕ × ℕ)) (here : ℕ × ℕ) (e f : EdgeFault) → Breaks p before here e → Breaks p before here f → e ≡ f
one-break p before here fault.TooManyEdges f a b = absurd a
one-break p before here fault.Memory f a b = absurd a
one-break p before here (fault.SelfEdge r) fault.TooManyEdges a b = absurd b
one-break p before here (fault.SelfEdge r) fault.Memory a b = absurd b
one-break p before here (fault.SelfEdge r) (fault.SelfEdge s) a b = ap fault.SelfEdge (a.0 ∙ sym b.0)
one-break p before here (fault.SelfEdge r) (fault.Cycle s) a b = absurd (b.1 a.1)
one-break p before here (fault.Cycle r) fault.TooManyEdges a b = absurd b
one-break p before here (fault.Cycle r) fault.Memory a b = absurd b
one-break p before here (fault.Cycle r) (fault.SelfEdge s) a b = absurd (a.1 b.1)
one-break p before here (fault.Cycle r) (fault.Cycle s) a b = ap fault.Cycle (a.0 ∙ sym b.0)

one-row : (rows : List (ℕ × ℕ)) (e f : EdgeFault) (a : BadRow rows e) (b : BadRow rows f) → length a.reached.before ≡ length b.reached.before → e ≡ f
one-row rows e f a b long =
    let r = a.reached in
    let s = b.reached in
    let (fronts, items) = fronts-same r.before r.here r.after s.before s.here s.after (sym r.split ∙ s.split) long in
    let place : b.row ≡ a.row = s.place ∙ ap (λ n. n + 1) (sym long) ∙ sym r.place in
    let there : Breaks a.row s.before s.here f = subst (λ p. Breaks p s.before s.here f) place b.breaks in
    let there' : Breaks a.row r.before s.here f = subst (λ l. Breaks a.row l s.here f) (sym fronts) there in
    let here : Breaks a.row r.before r.here f = subst (λ x. Breaks a.row r.before x f) (sym items) there' in
    one-break a.row r.before r.here e f a.breaks here

one-bad-row : (rows : List (ℕ × ℕ)) (e f : EdgeFault) → BadRow rows e → BadRow rows f → e ≡ f
one-bad-row rows e f a b = elim (cases_lt (length a.reached.before) (length b.reached.before)) [
  | inl less ↦ absurd (row-earlier rows e f a b less)
  | inr more ↦ elim (cases_lt (length b.reached.before) (length a.reached.before)) [
    | inl less ↦ absurd (row-earlier rows f e b a less)
    | inr other ↦ one-row rows e f a b (omega (arith, more, other))
  ]
]

-- of too many rows no row is reached
too-many : (rows : List (ℕ × ℕ)) (e : EdgeFault) → e ≢ fault.Memory → FirstEdgeFault rows e → MOST_EDGES < length rows → e ≡ fault.TooManyEdges
too-many rows fault.TooManyEdges other first many = refl
too-many rows (fault.SelfEdge row) other first many = absurd (omega (arith, first.0.few, many))
too-many rows (fault.Cycle row) other first many = absurd (omega (arith, first.0.few, many))
too-many rows fault.Memory other first many = absurd (other refl)

pub one-edge_fault : (rows : List (ℕ × ℕ)) (e f : EdgeFault) → e ≢ fault.Memory → f ≢ fault.Memory → FirstEdgeFault rows e → FirstEdgeFault rows f → e ≡ f
one-edge_fault rows e f e_other f_other first first' = elim (cases_lt MOST_EDGES (length rows)) [
  | inl many ↦ too-many rows e e_other first many ∙ sym (too-many rows f f_other first' many)
  | inr few ↦ one-bad-row rows e f (bad-row rows e e_other first few) (bad-row rows f f_other first' few)
]
