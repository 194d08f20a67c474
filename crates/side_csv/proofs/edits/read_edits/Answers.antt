use Rattle.std.proofs.Common.{◌≡◌, ◌<◌, List, ap, length}
use Rattle.std.specs.Prelude.{All}
use Rattle.std.specs.List.{AllZip}
use Rattle.std.proofs.lemmas.Result.{IfOk-weaker, MatchResult-weaker, err_from_is_err_and}
use Rattle.job_model.specs.Times.{MayCost}
use Rattle.side_csv.specs.EditsText.{EditsText, GivesEdit}
use Rattle.side_csv.specs.RowPerJobFaults.{side_fault_of}
use Rattle.side_csv.specs.declared.edits.JobEdit.{JobEdit}
use Rattle.side_csv.proofs.EditLemmas.{edits-in_range, edits-may_cost, one-text}
use Rattle.side_csv.proofs.edits.read_edits.Goals as goal

pub returns-in_err-rows-clause-refused : goal.returns-in_err-rows-clause-refused
returns-in_err-rows-clause-refused c =
    let p = err_from_is_err_and c.from_residual.result c.from_residual.ensures.1 in
    rw (p.1, p.2) (λ other t text. c.in_err-rows.ensures.refused (λ e. other (ap side_fault_of e)) text.rows text.rows_are)

pub returns-clause-only : goal.returns-clause-only
returns-clause-only c =
    let table = c.args.table.now in
    let rows = c.in_ok-rows.rows in
    IfOk-weaker c.edits_of_rows.result (λ edits. (t : List JobEdit) → AllZip (GivesEdit table) rows t → edits.items ≡ t) (λ edits. (t : List JobEdit) → EditsText table c.args.bytes.now t → edits.items ≡ t)
    (λ edits only. one-text table c.args.bytes.now rows edits.items c.in_ok-rows.ensures.only only) c.edits_of_rows.ensures.only

pub returns-clause-in_range : goal.returns-clause-in_range
returns-clause-in_range c =
    let table = c.args.table.now in
    let rows = c.in_ok-rows.rows in
    IfOk-weaker c.edits_of_rows.result (λ edits. AllZip (GivesEdit table) rows edits.items) (λ edits. All (λ (e : JobEdit). e.job < length table.jobs) edits.items)
    (λ edits given. edits-in_range table rows edits.items given) c.edits_of_rows.ensures.edits

pub returns-clause-may_cost : goal.returns-clause-may_cost
returns-clause-may_cost c =
    let table = c.args.table.now in
    let rows = c.in_ok-rows.rows in
    IfOk-weaker c.edits_of_rows.result (λ edits. AllZip (GivesEdit table) rows edits.items) (λ edits. All (λ (e : JobEdit). MayCost e.cmin e.cmax) edits.items)
    (λ edits given. edits-may_cost table rows edits.items given) c.edits_of_rows.ensures.edits

pub returns-clause-refused : goal.returns-clause-refused
returns-clause-refused c =
    let bytes = c.args.bytes.now in
    MatchResult-weaker c.edits_of_rows.result c.edits_of_rows.ensures.fault (λ edits p. p) (λ e first other t text. c.edits_keep_rules.ensures c.args.table.now bytes t text e other (first bytes c.in_ok-rows.ensures.rows))
