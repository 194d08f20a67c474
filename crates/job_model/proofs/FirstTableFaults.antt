-- The rows of a job table have one first broken rule.
use Rattle.std.proofs.Common.{◌≡◌, ◌≢◌, ◌<◌, ◌≤◌, ◌+◌, ◌∙◌, inl, inr, ℕ, List, Option, Some, None, length, get_or, arith, refl, sym, ap, ap₂, subst}
use Rattle.std.proofs.lemmas.Bool.{cases_lt}
use Rattle.job_model.specs.declared.job_row.Job.{Job}
use Rattle.job_model.specs.declared.limits.TheConstants.{MOST_JOBS}
use Rattle.job_model.specs.declared.fault.TableFault.{TableFault}
use Rattle.job_model.specs.declared.fault.TableFault.TheVariants as fault
use Rattle.job_model.specs.Table.{HaveOneId, IsJob, IsTable, no_job, table_of}
use Rattle.job_model.specs.TableFaults.{FirstTableFault, ReachedJobRow, first_above, limited, spans}
use Rattle.lists.proofs.Splits.{front-within, fronts-same}
use Rattle.job_model.proofs.TableLemmas.{limits-kept, no-table, spans-kept}

-- the row of this number breaks the rule, after these rows
abbrev Breaks : ℕ → List Job → Job → TableFault → Type 0
Breaks p before here fault.TooMany = ⊥
Breaks p before here (fault.OverLimit row column) = (row ≡ p) × (first_above (limited here) ≡ Some column)
Breaks p before here (fault.SpanReversed row column) = (row ≡ p) × (first_above (limited here) ≡ None) × (first_above (spans here) ≡ Some column)
Breaks p before here (fault.ZeroCost row) = (row ≡ p) × (first_above (limited here) ≡ None) × (first_above (spans here) ≡ None) × (here.cmin ≡ 0)
Breaks p before here (fault.Twice row earlier) = (row ≡ p) × IsJob here × (k : ℕ) × (k < length before) × (earlier ≡ k + 1) × HaveOneId (get_or before k no_job) here
Breaks p before here fault.Memory = ⊥

-- a row that was reached breaks the rule
record BadRow (rows : List Job) (e : TableFault) : Type 0 where
  pub row : ℕ
  pub reached : ReachedJobRow rows row
  pub breaks : Breaks row reached.before reached.here e

bad-row : (rows : List Job) (e : TableFault) → e ≢ fault.Memory → FirstTableFault rows e → (length rows ≤ MOST_JOBS) → BadRow rows e
bad-row rows fault.TooMany other first few = absurd (omega (arith, first, few))
bad-row rows (fault.OverLimit row column) other first few = record { row = row; reached = first.0; breaks = (refl, first.1) }
bad-row rows (fault.SpanReversed row column) other first few = record { row = row; reached = first.0; breaks = (refl, first.1, first.2) }
bad-row rows (fault.ZeroCost row) other first few = record { row = row; reached = first.0; breaks = (refl, first.1, first.2, first.3) }
bad-row rows (fault.Twice row earlier) other (r, job, k, below, place, same) few = record { row = row; reached = r; breaks = (refl, job, k, below, place, same) }
bad-row rows fault.Memory other first few = absurd (other refl)

-- a row that breaks a rule is the first that does
first-bad : (rows : List Job) (e : TableFault) (p : ℕ) (r : ReachedJobRow rows p) → Breaks p r.before r.here e → (e ≢ fault.Memory) × FirstTableFault rows e
first-bad rows fault.TooMany p r breaks = absurd breaks
first-bad rows (fault.OverLimit row column) p r breaks = ((λ x. cc), subst (λ n. (r : ReachedJobRow rows n) × (first_above (limited r.here) ≡ Some column)) (sym breaks.0) (r, breaks.1))
first-bad rows (fault.SpanReversed row column) p r breaks = ((λ x. cc), subst (λ n. FirstTableFault rows (fault.SpanReversed n column)) (sym breaks.0) (r, breaks.1, breaks.2))
first-bad rows (fault.ZeroCost row) p r breaks = ((λ x. cc), subst (λ n. FirstTableFault rows (fault.ZeroCost n)) (sym breaks.0) (r, breaks.1, breaks.2, breaks.3))
first-bad rows (fault.Twice row earlier) p r (is, job, k, below, place, same) = ((λ x. cc), subst (λ n. FirstTableFault rows (fault.Twice n earlier)) (sym is) (r, job, k, below, place, same))
first-bad rows fault.Memory p r breaks = absurd breaks

-- the rows before one that was reached break no rule
row-earlier : (rows : List Job) (e f : TableFault) (a : BadRow rows e) (b : BadRow rows f) → length a.reached.before < length b.reached.before → ⊥
row-earlier rows e f a b less =
    let r = a.reached in
    let s = b.reached in
    let (tail, is) = front-within r.before r.here r.after s.before s.here s.after (sym r.split ∙ s.split) less in
    let within : ReachedJobRow s.before a.row = record {
      before = r.before;
      here = r.here;
      after = tail;
      split = is;
      place = r.place;
      few = s.kept.few_jobs;
      kept = r.kept;
    } in
    let (other, first) = first-bad s.before e a.row within a.breaks in
    no-table s.before e other first s.kept

-- two earlier rows with the IDs of a row are one
one-earlier : (before : List Job) (here : Job) (k l : ℕ) → IsTable (table_of before) → k < length before → l < length before → HaveOneId (get_or before k no_job) here → HaveOneId (get_or before l no_job) here → k ≡ l
one-earlier before here k l kept below below' same same' = elim (cases_lt k l) [
  | inl less ↦ absurd (kept.ids_differ k l no_job less below' (same.0 ∙ sym same'.0, same.1 ∙ sym same'.1))
  | inr more ↦ elim (cases_lt l k) [
    | inl less ↦ absurd (kept.ids_differ l k no_job less below (same'.0 ∙ sym same.0, same'.1 ∙ sym same.1))
    | inr other ↦ omega (arith, more, other)
  ]
]

-- there is none, and there is some
clash : {X : Type 0} {A : Type 0} (o : Option A) (a : A) → o ≡ None → o ≡ Some a → X
clash o a none some = absurd cc

-- a row breaks one rule first
one-break : (p : ℕ) (before : List Job) (here : Job) (e f : TableFault) → IsTable (table_of before) → Breaks p before here e → Breaks p before here f → e ≡ f
one-break p before here fault.TooMany f kept a b = absurd a
one-break p before here fault.Memory f kept a b = absurd a
one-break p before here (fault.OverLimit r c) fault.TooMany kept a b = absurd b
one-break p before here (fault.OverLimit r c) fault.Memory kept a b = absurd b
one-break p before here (fault.OverLimit r c) (fault.OverLimit s d) kept a b = let same : Some c ≡ Some d = sym a.1 ∙ b.1 in ap₂ fault.OverLimit (a.0 ∙ sym b.0) (cc same)
one-break p before here (fault.OverLimit r c) (fault.SpanReversed s d) kept a b = clash _ c b.1 a.1
one-break p before here (fault.OverLimit r c) (fault.ZeroCost s) kept a b = clash _ c b.1 a.1
one-break p before here (fault.OverLimit r c) (fault.Twice s k) kept a b = clash _ c (limits-kept here b.1) a.1
one-break p before here (fault.SpanReversed r c) fault.TooMany kept a b = absurd b
one-break p before here (fault.SpanReversed r c) fault.Memory kept a b = absurd b
one-break p before here (fault.SpanReversed r c) (fault.OverLimit s d) kept a b = clash _ d a.1 b.1
one-break p before here (fault.SpanReversed r c) (fault.SpanReversed s d) kept a b = let same : Some c ≡ Some d = sym a.2 ∙ b.2 in ap₂ fault.SpanReversed (a.0 ∙ sym b.0) (cc same)
one-break p before here (fault.SpanReversed r c) (fault.ZeroCost s) kept a b = clash _ c b.2 a.2
one-break p before here (fault.SpanReversed r c) (fault.Twice s k) kept a b = clash _ c (spans-kept here b.1) a.2
one-break p before here (fault.ZeroCost r) fault.TooMany kept a b = absurd b
one-break p before here (fault.ZeroCost r) fault.Memory kept a b = absurd b
one-break p before here (fault.ZeroCost r) (fault.OverLimit s d) kept a b = clash _ d a.1 b.1
one-break p before here (fault.ZeroCost r) (fault.SpanReversed s d) kept a b = clash _ d a.2 b.2
one-break p before here (fault.ZeroCost r) (fault.ZeroCost s) kept a b = ap fault.ZeroCost (a.0 ∙ sym b.0)
one-break p before here (fault.ZeroCost r) (fault.Twice s k) kept a b = absurd (omega (arith, b.1.costs_something, a.3))
one-break p before here (fault.Twice r k) fault.TooMany kept a b = absurd b
one-break p before here (fault.Twice r k) fault.Memory kept a b = absurd b
one-break p before here (fault.Twice r k) (fault.OverLimit s d) kept a b = clash _ d (limits-kept here a.1) b.1
one-break p before here (fault.Twice r k) (fault.SpanReversed s d) kept a b = clash _ d (spans-kept here a.1) b.2
one-break p before here (fault.Twice r k) (fault.ZeroCost s) kept a b = absurd (omega (arith, a.1.costs_something, b.3))
one-break p before here (fault.Twice r k) (fault.Twice s l) kept (row, job, i, below, place, same) (row', job', j, below', place', same') =
    ap₂ fault.Twice (row ∙ sym row') (place ∙ ap (λ n. n + 1) (one-earlier before here i j kept below below' same same') ∙ sym place')

one-row : (rows : List Job) (e f : TableFault) (a : BadRow rows e) (b : BadRow rows f) → length a.reached.before ≡ length b.reached.before → e ≡ f
one-row rows e f a b long =
    let r = a.reached in
    let s = b.reached in
    let (fronts, items) = fronts-same r.before r.here r.after s.before s.here s.after (sym r.split ∙ s.split) long in
    let place : b.row ≡ a.row = s.place ∙ ap (λ n. n + 1) (sym long) ∙ sym r.place in
    let there : Breaks a.row s.before s.here f = subst (λ p. Breaks p s.before s.here f) place b.breaks in
    let there' : Breaks a.row r.before s.here f = subst (λ l. Breaks a.row l s.here f) (sym fronts) there in
    let here : Breaks a.row r.before r.here f = subst (λ j. Breaks a.row r.before j f) (sym items) there' in
    one-break a.row r.before r.here e f r.kept a.breaks here

one-bad-row : (rows : List Job) (e f : TableFault) → BadRow rows e → BadRow rows f → e ≡ f
one-bad-row rows e f a b = elim (cases_lt (length a.reached.before) (length b.reached.before)) [
  | inl less ↦ absurd (row-earlier rows e f a b less)
  | inr more ↦ elim (cases_lt (length b.reached.before) (length a.reached.before)) [
    | inl less ↦ absurd (row-earlier rows f e b a less)
    | inr other ↦ one-row rows e f a b (omega (arith, more, other))
  ]
]

-- of too many rows no row is reached
too-many : (rows : List Job) (e : TableFault) → e ≢ fault.Memory → FirstTableFault rows e → MOST_JOBS < length rows → e ≡ fault.TooMany
too-many rows fault.TooMany other first many = refl
too-many rows (fault.OverLimit row column) other first many = absurd (omega (arith, first.0.few, many))
too-many rows (fault.SpanReversed row column) other first many = absurd (omega (arith, first.0.few, many))
too-many rows (fault.ZeroCost row) other first many = absurd (omega (arith, first.0.few, many))
too-many rows (fault.Twice row earlier) other first many = absurd (omega (arith, first.0.few, many))
too-many rows fault.Memory other first many = absurd (other refl)

pub one-table_fault : (rows : List Job) (e f : TableFault) → e ≢ fault.Memory → f ≢ fault.Memory → FirstTableFault rows e → FirstTableFault rows f → e ≡ f
one-table_fault rows e f e_other f_other first first' = elim (cases_lt MOST_JOBS (length rows)) [
  | inl many ↦ too-many rows e e_other first many ∙ sym (too-many rows f f_other first' many)
  | inr few ↦ one-bad-row rows e f (bad-row rows e e_other first few) (bad-row rows f f_other first' few)
]
