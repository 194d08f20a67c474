-- What the rows of a precedence file say of its edges, and when they say that there are none.
use Rattle.std.proofs.Common.{◌≡◌, ◌≢◌, ◌∙◌, ℕ, suc, ◌+◌, ◌<◌, List, inl, inr, [], ◌∷◌, ◌++◌, length, take, drop, get_or, refl, sym, ap, subst, arith, drop-cons}
use Rattle.std.specs.Prelude.{All}
use Rattle.std.specs.List.{AllZip}
use Rattle.std.proofs.lemmas.List.{get_or-map, length-map, length-take-le, take-append-drop}
use Rattle.std.proofs.lemmas.List.Elements.{All-cons, All-nil}
use Rattle.csv_numbers.specs.Laws.{RowsAgree, RowsKeepRules}
use Rattle.csv_numbers.specs.Rows.{Rows}
use Rattle.lists.proofs.Elements.{zip-middle}
use Rattle.job_model.specs.Table.{IsTable, Table, id_of, no_job}
use Rattle.side_csv.specs.Laws.{OnePrecedence, PrecedenceKeepsRules}
use Rattle.side_csv.specs.PrecedenceFaults.{FirstPrecedenceFault, IsKnown, ReachedEdgeRow}
use Rattle.side_csv.specs.PrecedenceText.{HasIds, NamesEdge, PrecedenceText, predecessor_in, successor_in}
use Rattle.side_csv.specs.declared.fault.SideFault.{SideFault}
use Rattle.side_csv.specs.declared.fault.SideFault.TheVariants as fault
use Rattle.side_csv.proofs.RowLemmas.{job-same}

-- the IDs of a job are known
pub known : (table : Table) (j : ℕ) (ids : ℕ × ℕ) → HasIds table j ids → IsKnown table ids
known table j ids has = (j, omega (arith, has.is_job, length-map table.jobs id_of), get_or-map id_of table.jobs j no_job ids has.is_job ∙ has.ids_are)

-- the row at an index, where those before it name edges
abbrev pub reached-edge : (table : Table) (bytes : List ℕ) (rows : List (List ℕ)) (i : ℕ) (edges : List (ℕ × ℕ)) → i < length rows → Rows bytes 4 rows → AllZip (NamesEdge table) (take i rows) edges
    → ReachedEdgeRow table bytes (i + 1)
reached-edge table bytes rows i edges below reads named = record {
  before = take i rows;
  here = get_or rows i [];
  after = drop (suc i) rows;
  rows_are = subst (λ (l : List (List ℕ)). Rows bytes 4 l) (sym (take-append-drop i rows) ∙ ap (λ l. take i rows ++ l) (drop-cons rows i [] below)) reads;
  place = ap (λ n. n + 1) (sym (length-take-le i rows (omega arith)));
  edges = edges;
  named = named;
}

-- a row names one edge
one-edge : (table : Table) → IsTable table → (row : List ℕ) (e f : ℕ × ℕ) → NamesEdge table row e → NamesEdge table row f → e ≡ f
one-edge table is_table row e f one two =
    let p = one.predecessor in
    let q = two.predecessor in
    let s = one.successor in
    let t = two.successor in
    let first = job-same table is_table e.0 f.0 p.is_job q.is_job (p.ids_are ∙ sym q.ids_are) in
    let second = job-same table is_table e.1 f.1 s.is_job t.is_job (s.ids_are ∙ sym t.ids_are) in
    λ i. (first i, second i)

-- rows name one list of edges
pub one-edges : (table : Table) (rows : List (List ℕ)) → (0 < length rows → IsTable table) → (es fs : List (ℕ × ℕ)) → AllZip (NamesEdge table) rows es → AllZip (NamesEdge table) rows fs → es ≡ fs
one-edges table [] is_table [] [] one two = refl
one-edges table [] is_table [] (f ∷ fs) one two = absurd two
one-edges table [] is_table (e ∷ es) fs one two = absurd one
one-edges table (row ∷ rows) is_table [] fs one two = absurd one
one-edges table (row ∷ rows) is_table (e ∷ es) [] one two = absurd two
one-edges table (row ∷ rows) is_table (e ∷ es) (f ∷ fs) one two =
    let same = one-edge table (is_table (omega arith)) row e f one.0 two.0 in
    let rest = one-edges table rows (λ more. is_table (omega arith)) es fs one.1 two.1 in
    λ i. same i ∷ rest i

-- a text has one list of edges
pub one-precedence : (table : Table) (bytes : List ℕ) (rows : List (List ℕ)) (edges : List (ℕ × ℕ)) → ((list : List (List ℕ)) → Rows bytes 4 list → rows ≡ list)
    → ((t : List (ℕ × ℕ)) → AllZip (NamesEdge table) rows t → edges ≡ t) → (t : List (ℕ × ℕ)) → PrecedenceText table bytes t → edges ≡ t
one-precedence table bytes rows edges agree only t text = only t (subst (λ l. AllZip (NamesEdge table) l t) (sym (agree text.rows text.rows_are)) text.edges_are)

-- the edges that rows name are between jobs of the table
pub edges-in_range : (table : Table) (rows : List (List ℕ)) (edges : List (ℕ × ℕ)) → AllZip (NamesEdge table) rows edges → All (λ e. (e.0 < length table.jobs) × (e.1 < length table.jobs)) edges
edges-in_range table [] [] named = All-nil (λ (e : ℕ × ℕ). (e.0 < length table.jobs) × (e.1 < length table.jobs))
edges-in_range table [] (e ∷ es) named = absurd named
edges-in_range table (row ∷ rows) [] named = absurd named
edges-in_range table (row ∷ rows) (e ∷ es) named =
    All-cons (λ (e : ℕ × ℕ). (e.0 < length table.jobs) × (e.1 < length table.jobs)) e es (named.0.predecessor.is_job, named.0.successor.is_job) (edges-in_range table rows es named.1)

-- a text that breaks a rule is of no edges
pub no-precedence : RowsAgree → RowsKeepRules → (table : Table) (bytes : List ℕ) (e : SideFault) → e ≢ fault.Memory → FirstPrecedenceFault table bytes e → (t : List (ℕ × ℕ)) → ¬ PrecedenceText table bytes t
no-precedence agree keep table bytes (fault.Csv f) other first t text = keep bytes 4 text.rows text.rows_are f first.0 first.1
no-precedence agree keep table bytes (fault.Unknown row column) other first t text =
    let r = first.0 in
    let same = agree bytes 4 text.rows (r.before ++ r.here ∷ r.after) text.rows_are r.rows_are in
    let (e, names) = zip-middle (NamesEdge table) r.before r.here r.after t (subst (λ l. AllZip (NamesEdge table) l t) same text.edges_are) in
    elim first.1 [
      | inl one ↦ one.1 (known table e.0 (predecessor_in r.here) names.predecessor)
      | inr two ↦ two.2 (known table e.1 (successor_in r.here) names.successor)
    ]
no-precedence agree keep table bytes (fault.Missing j) other first t text = first
no-precedence agree keep table bytes (fault.Twice row earlier) other first t text = first
no-precedence agree keep table bytes (fault.Outside row column) other first t text = first
no-precedence agree keep table bytes fault.Memory other first t text = other refl

pub one_precedence : RowsAgree → OnePrecedence
one_precedence agree table bytes one other is_table a b =
    one-precedence table bytes a.rows one (λ list reads. agree bytes 4 a.rows list a.rows_are reads) (λ t named. one-edges table a.rows (λ more. is_table) one t a.edges_are named) other b

pub precedence_keeps_rules : RowsAgree → RowsKeepRules → PrecedenceKeepsRules
precedence_keeps_rules agree keep table bytes edges text e other first = no-precedence agree keep table bytes e other first edges text
