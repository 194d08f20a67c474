use Rattle.std.proofs.Common.{◌≡◌, ◌<◌, ℕ, List, ap, length}
use Rattle.std.specs.Prelude.{All}
use Rattle.std.specs.List.{AllZip}
use Rattle.std.proofs.lemmas.Result.{IfOk-weaker, MatchResult-weaker, err_from_is_err_and}
use Rattle.side_csv.specs.PrecedenceText.{NamesEdge, PrecedenceText}
use Rattle.side_csv.specs.RowPerJobFaults.{side_fault_of}
use Rattle.side_csv.proofs.PrecedenceLemmas.{edges-in_range, one-precedence}
use Rattle.side_csv.proofs.precedence.read_edges.Goals as goal

pub returns-in_err-rows-clause-refused : goal.returns-in_err-rows-clause-refused
returns-in_err-rows-clause-refused c =
    let p = err_from_is_err_and c.from_residual.result c.from_residual.ensures.1 in
    rw (p.1, p.2) (λ other t text. c.in_err-rows.ensures.refused (λ e. other (ap side_fault_of e)) text.rows text.rows_are)

pub returns-clause-only : goal.returns-clause-only
returns-clause-only c =
    let table = c.args.table.now in
    let rows = c.in_ok-rows.rows in
    IfOk-weaker c.edges_of_rows.result (λ edges. (t : List (ℕ × ℕ)) → AllZip (NamesEdge table) rows t → edges.items ≡ t) (λ edges. (t : List (ℕ × ℕ)) → PrecedenceText table c.args.bytes.now t → edges.items ≡ t)
    (λ edges only. one-precedence table c.args.bytes.now rows edges.items c.in_ok-rows.ensures.only only) c.edges_of_rows.ensures.only

pub returns-clause-in_range : goal.returns-clause-in_range
returns-clause-in_range c =
    let table = c.args.table.now in
    let rows = c.in_ok-rows.rows in
    IfOk-weaker c.edges_of_rows.result (λ edges. AllZip (NamesEdge table) rows edges.items) (λ edges. All (λ (e : ℕ × ℕ). (e.0 < length table.jobs) × (e.1 < length table.jobs)) edges.items)
    (λ edges named. edges-in_range table rows edges.items named) c.edges_of_rows.ensures.edges

pub returns-clause-refused : goal.returns-clause-refused
returns-clause-refused c =
    let bytes = c.args.bytes.now in
    MatchResult-weaker c.edges_of_rows.result c.edges_of_rows.ensures.fault (λ edges p. p) (λ e first other t text. c.precedence_keeps_rules.ensures c.args.table.now bytes t text e other (first bytes c.in_ok-rows.ensures.rows))
