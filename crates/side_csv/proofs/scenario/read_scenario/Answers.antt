use Rattle.std.proofs.Common.{ap}
use Rattle.std.proofs.lemmas.Result.{err_from_is_err_and}
use Rattle.side_csv.specs.RowPerJobFaults.{side_fault_of}
use Rattle.side_csv.specs.ScenarioText.{outside_in_scenario}
use Rattle.side_csv.proofs.OneRowFault.{first-csv}
use Rattle.side_csv.proofs.ScenarioLemmas.{fits-given}
use Rattle.side_csv.proofs.scenario.read_scenario.Goals as goal

pub returns-in_err-rows-clause-fault : goal.returns-in_err-rows-clause-fault
returns-in_err-rows-clause-fault c =
    let p = err_from_is_err_and c.from_residual.result c.from_residual.ensures.1 in
    rw (p.1, p.2) (first-csv 4 (outside_in_scenario c.args.table.now) c.args.table.now c.args.bytes.now c.in_err-rows.field-0.0 c.in_err-rows.ensures.fault)

pub returns-in_err-rows-clause-refused : goal.returns-in_err-rows-clause-refused
returns-in_err-rows-clause-refused c =
    let p = err_from_is_err_and c.from_residual.result c.from_residual.ensures.1 in
    rw (p.1, p.2) (λ other s text. c.in_err-rows.ensures.refused (λ e. other (ap side_fault_of e)) text.rows text.rows_are)

pub returns-in_err-places-clause-refused : goal.returns-in_err-places-clause-refused
returns-in_err-places-clause-refused c =
    let p = err_from_is_err_and c.from_residual-in_err-places.result c.from_residual-in_err-places.ensures.1 in
    let first = c.in_err-places.ensures.fault c.args.bytes.now c.in_ok-rows.ensures.rows in
    rw (p.1, p.2) (λ other s text. c.scenarios_keep_rules.ensures c.args.table.now c.args.bytes.now s c.in_err-places.ensures.table text c.in_err-places.field-0.0 other first)

pub returns-in_err-values-clause-refused : goal.returns-in_err-values-clause-refused
returns-in_err-values-clause-refused c =
    let p = err_from_is_err_and c.from_residual-in_err-values.result c.from_residual-in_err-values.ensures.1 in
    let kept = c.in_ok-places.ensures.kept in
    let first = c.in_err-values.ensures.fault c.args.bytes.now c.in_ok-rows.ensures.rows kept in
    rw (p.1, p.2) (λ other s text. c.scenarios_keep_rules.ensures c.args.table.now c.args.bytes.now s c.in_ok-places.ensures.table text c.in_err-values.field-0.0 other first)

pub unreachable-requires : goal.unreachable-requires
unreachable-requires c =
    let kept = c.in_ok-places.ensures.kept in
    let given = c.in_ok-values.ensures.given in
    let fits = fits-given c.args.table.now c.in_ok-places.ensures.table c.in_ok-rows.rows c.in_ok-values.values.items kept c.in_ok-values.ensures.one_each given in
    let none = c.in-None.ensures.fits.1 fits in cc

pub returns-clause-text : goal.returns-clause-text
returns-clause-text c =
    rw c.in-Some.ensures.rows (record {
      rows = c.in_ok-rows.rows;
      rows_are = c.in_ok-rows.ensures.rows;
      kept = c.in_ok-places.ensures.kept;
      one_each = c.in_ok-values.ensures.one_each;
      given = c.in_ok-values.ensures.given;
    })

pub returns-clause-only : goal.returns-clause-only
returns-clause-only c t text = c.one_scenario.ensures c.args.table.now c.args.bytes.now c.in-Some.scenario t (returns-clause-text c) text
