-- A precedence file has one first broken rule.
use Rattle.std.proofs.Common.{◌≡◌, ◌<◌, ◌+◌, ◌++◌, ◌∷◌, ◌∙◌, inl, inr, ℕ, List, length, arith, refl, sym, ap, ap₂, subst}
use Rattle.std.specs.List.{AllZip}
use Rattle.std.proofs.lemmas.Bool.{cases_lt}
use Rattle.csv_numbers.specs.Laws.{OneFirstFault, RowsAgree, RowsKeepRules}
use Rattle.lists.proofs.Elements.{zip-middle}
use Rattle.lists.proofs.Splits.{front-within, fronts-same}
use Rattle.job_model.specs.Table.{Table}
use Rattle.side_csv.specs.Laws.{OnePrecedenceFault}
use Rattle.side_csv.specs.PrecedenceFaults.{FirstUnknown, ReachedEdgeRow}
use Rattle.side_csv.specs.PrecedenceText.{NamesEdge, predecessor_in, successor_in}
use Rattle.side_csv.specs.declared.fault.SideFault.TheVariants as fault
use Rattle.side_csv.proofs.PrecedenceLemmas.{known}

-- two rows that are reached split the same rows
rows-split : RowsAgree → (table : Table) (bytes : List ℕ) (p q : ℕ) (r : ReachedEdgeRow table bytes p) (s : ReachedEdgeRow table bytes q) → r.before ++ r.here ∷ r.after ≡ s.before ++ s.here ∷ s.after
rows-split agree table bytes p q r s = agree bytes 4 (r.before ++ r.here ∷ r.after) (s.before ++ s.here ∷ s.after) r.rows_are s.rows_are

-- a row that names an edge names two jobs
edge-known : (table : Table) (here : List ℕ) (column : ℕ) (e : ℕ × ℕ) → NamesEdge table here e → FirstUnknown table here column → ⊥
edge-known table here column e names (inl one) = one.1 (known table e.0 (predecessor_in here) names.predecessor)
edge-known table here column e names (inr two) = two.2 (known table e.1 (successor_in here) names.successor)

-- the rows before one that was reached name edges
row-earlier : RowsAgree → (table : Table) (bytes : List ℕ) (p q c : ℕ) (r : ReachedEdgeRow table bytes p) (s : ReachedEdgeRow table bytes q) → FirstUnknown table r.here c → length r.before < length s.before → ⊥
row-earlier agree table bytes p q c r s unknown less =
    let (tail, is) = front-within r.before r.here r.after s.before s.here s.after (rows-split agree table bytes p q r s) less in
    let (e, names) = zip-middle (NamesEdge table) r.before r.here tail s.edges (subst (λ l. AllZip (NamesEdge table) l s.edges) is s.named) in
    edge-known table r.here c e names unknown

-- a row has one leftmost column with IDs of no job
one-column : (table : Table) (here : List ℕ) (c d : ℕ) → FirstUnknown table here c → FirstUnknown table here d → c ≡ d
one-column table here c d (inl a) (inl b) = a.0 ∙ sym b.0
one-column table here c d (inl a) (inr b) = absurd (a.1 b.1)
one-column table here c d (inr a) (inl b) = absurd (b.1 a.1)
one-column table here c d (inr a) (inr b) = a.0 ∙ sym b.0

one-unknown : RowsAgree → (table : Table) (bytes : List ℕ) (p q c d : ℕ) (r : ReachedEdgeRow table bytes p) (s : ReachedEdgeRow table bytes q) → FirstUnknown table r.here c → FirstUnknown table s.here d → fault.Unknown p c ≡ fault.Unknown q d
one-unknown agree table bytes p q c d r s a b = elim (cases_lt (length r.before) (length s.before)) [
  | inl less ↦ absurd (row-earlier agree table bytes p q c r s a less)
  | inr more ↦ elim (cases_lt (length s.before) (length r.before)) [
    | inl less ↦ absurd (row-earlier agree table bytes q p d s r b less)
    | inr other ↦
        let long : length r.before ≡ length s.before = omega (arith, more, other) in
        let here = (fronts-same r.before r.here r.after s.before s.here s.after (rows-split agree table bytes p q r s) long).1 in
        ap₂ fault.Unknown (r.place ∙ ap (λ n. n + 1) long ∙ sym s.place) (one-column table r.here c d a (subst (λ x. FirstUnknown table x d) (sym here) b))
  ]
]

pub one_precedence_fault : RowsAgree → RowsKeepRules → OneFirstFault → OnePrecedenceFault
one_precedence_fault agree keep one table bytes (fault.Csv c) (fault.Csv d) e_other f_other a b = ap fault.Csv (one bytes 4 c d a.0 b.0 a.1 b.1)
one_precedence_fault agree keep one table bytes (fault.Csv c) (fault.Unknown row column) e_other f_other a (s, b) = absurd (keep bytes 4 (s.before ++ s.here ∷ s.after) s.rows_are c a.0 a.1)
one_precedence_fault agree keep one table bytes (fault.Csv c) (fault.Missing j) e_other f_other a b = absurd b
one_precedence_fault agree keep one table bytes (fault.Csv c) (fault.Twice row earlier) e_other f_other a b = absurd b
one_precedence_fault agree keep one table bytes (fault.Csv c) (fault.Outside row column) e_other f_other a b = absurd b
one_precedence_fault agree keep one table bytes (fault.Csv c) fault.Memory e_other f_other a b = absurd (f_other refl)
one_precedence_fault agree keep one table bytes (fault.Unknown row column) (fault.Csv d) e_other f_other (r, a) b = absurd (keep bytes 4 (r.before ++ r.here ∷ r.after) r.rows_are d b.0 b.1)
one_precedence_fault agree keep one table bytes (fault.Unknown p c) (fault.Unknown q d) e_other f_other (r, a) (s, b) = one-unknown agree table bytes p q c d r s a b
one_precedence_fault agree keep one table bytes (fault.Unknown p c) (fault.Missing j) e_other f_other a b = absurd b
one_precedence_fault agree keep one table bytes (fault.Unknown p c) (fault.Twice row earlier) e_other f_other a b = absurd b
one_precedence_fault agree keep one table bytes (fault.Unknown p c) (fault.Outside row column) e_other f_other a b = absurd b
one_precedence_fault agree keep one table bytes (fault.Unknown p c) fault.Memory e_other f_other a b = absurd (f_other refl)
one_precedence_fault agree keep one table bytes (fault.Missing j) f e_other f_other a b = absurd a
one_precedence_fault agree keep one table bytes (fault.Twice row earlier) f e_other f_other a b = absurd a
one_precedence_fault agree keep one table bytes (fault.Outside row column) f e_other f_other a b = absurd a
one_precedence_fault agree keep one table bytes fault.Memory f e_other f_other a b = absurd (e_other refl)
