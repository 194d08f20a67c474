use Rattle.std.proofs.lemmas.Result.{err_from_is_err_and}
use Rattle.sag_engine.specs.Inputs.{table_plan}
use Rattle.sag_engine.proofs.InputLemmas.{accepted_no_edges}
use Rattle.sag_engine.proofs.PlanLemmas.{follows_then, follows_halt}
use Rattle.sag_engine.proofs.inputs.read_table.Goals as goal

pub read_precedence_file-requires : goal.read_precedence_file-requires
read_precedence_file-requires g c = accepted_no_edges _ _ _ c.in_ok-table.ensures.end

pub returns-in_err-table : goal.returns-in_err-table
unfolding table_plan
returns-in_err-table g c =
    let p = err_from_is_err_and c.from_residual.result c.from_residual.ensures.1 in
    rw (p.1, p.2) (follows_halt _ _ _ _ c.in_err-table.ensures)

pub returns : goal.returns
unfolding table_plan
returns g c = follows_then _ _ _ _ c.in_ok-table.ensures c.read_precedence_file.ensures
