use Rattle.std.proofs.Common.{ap}
use Rattle.std.proofs.lemmas.Result.{err_from_is_err_and}
use Rattle.side_csv.specs.RowPerJobFaults.{side_fault_of}
use Rattle.side_csv.specs.RunText.{outside_in_run}
use Rattle.side_csv.proofs.OneRowFault.{first-csv}
use Rattle.side_csv.proofs.RunLemmas.{starts-within}
use Rattle.side_csv.proofs.run.read_run.Goals as goal

pub returns-in_err-rows-clause-fault : goal.returns-in_err-rows-clause-fault
returns-in_err-rows-clause-fault c =
    let p = err_from_is_err_and c.from_residual.result c.from_residual.ensures.1 in
    rw (p.1, p.2) (first-csv 5 (outside_in_run c.args.scenario.now) c.args.table.now c.args.bytes.now c.in_err-rows.field-0.0 c.in_err-rows.ensures.fault)

pub returns-in_err-rows-clause-refused : goal.returns-in_err-rows-clause-refused
returns-in_err-rows-clause-refused c =
    let p = err_from_is_err_and c.from_residual.result c.from_residual.ensures.1 in
    rw (p.1, p.2) (λ other run text. c.in_err-rows.ensures.refused (λ e. other (ap side_fault_of e)) text.rows text.rows_are)

pub returns-in_err-found-clause-refused : goal.returns-in_err-found-clause-refused
returns-in_err-found-clause-refused c =
    let p = err_from_is_err_and c.from_residual-in_err-found.result c.from_residual-in_err-found.ensures.1 in
    let first = c.in_err-found.ensures.fault c.args.bytes.now c.in_ok-rows.ensures.rows in
    rw (p.1, p.2) (λ other run text. c.runs_keep_rules.ensures c.args.table.now c.args.scenario.now c.args.bytes.now run c.in_err-found.ensures.table text c.in_err-found.field-0.0 other first)

pub returns-in_err-places-clause-refused : goal.returns-in_err-places-clause-refused
returns-in_err-places-clause-refused c =
    let p = err_from_is_err_and c.from_residual-in_err-places.result c.from_residual-in_err-places.ensures.1 in
    let first = c.in_err-places.ensures.fault c.args.bytes.now c.in_ok-rows.ensures.rows in
    rw (p.1, p.2) (λ other run text. c.runs_keep_rules.ensures c.args.table.now c.args.scenario.now c.args.bytes.now run c.in_ok-found.ensures.table text c.in_err-places.field-0.0 other first)

pub returns-clause-text : goal.returns-clause-text
returns-clause-text c =
    record {
      rows = c.in_ok-rows.rows;
      rows_are = c.in_ok-rows.ensures.rows;
      kept = c.in_ok-found.ensures.kept;
      one_each = c.in_ok-places.ensures.one_each;
      given = c.in_ok-places.ensures.given;
    }

pub returns-clause-starts : goal.returns-clause-starts
returns-clause-starts c =
    starts-within c.args.table.now c.in_ok-found.ensures.table c.args.scenario.now c.in_ok-rows.rows c.in_ok-places.places.items c.in_ok-found.ensures.kept c.in_ok-places.ensures.given

pub returns-clause-only : goal.returns-clause-only
returns-clause-only c t text = c.one_recorded_run.ensures c.args.table.now c.args.scenario.now c.args.bytes.now c.in_ok-places.places.items t (returns-clause-text c) text
