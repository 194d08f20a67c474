use Rattle.std.proofs.lemmas.Result.{err_from_is_err_and}
use Rattle.sag_engine.specs.Unroll.{unrolled_plan}
use Rattle.sag_engine.proofs.PlanLemmas.{follows_then, follows_halt, follows_judged}
use Rattle.sag_engine.proofs.UnrollLemmas.{accepted_are_tasks}
use Rattle.sag_engine.proofs.command_unroll.read_unrolled.Goals as goal

pub table_of-requires : goal.table_of-requires
table_of-requires g c = record {
  tasks = rw c.deref.ensures.value (accepted_are_tasks _ _ _ c.in_ok-tasks.ensures.end);
  horizon = c.requires;
}

pub returns-in_err-tasks : goal.returns-in_err-tasks
unfolding unrolled_plan
returns-in_err-tasks g c =
    let p = err_from_is_err_and c.from_residual.result c.from_residual.ensures.1 in
    rw (p.1, p.2) (follows_halt _ _ _ _ c.in_err-tasks.ensures)

pub returns : goal.returns
unfolding unrolled_plan
returns g c = follows_then _ _ _ _ c.in_ok-tasks.ensures (follows_judged _ _ (rw c.deref.ensures.value at c.table_of.ensures))
