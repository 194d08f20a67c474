use Rattle.std.proofs.Common.{refl}
use Rattle.std.proofs.lemmas.Result.{err_from_is_err_and}
use Rattle.sag_engine.specs.Attain.{job_plan}
use Rattle.sag_engine.specs.Work.Work.{Attains}
use Rattle.sag_engine.proofs.AttainLemmas.{table_no_edges}
use Rattle.sag_engine.proofs.PlanLemmas.{follows_then, follows_halt, follows_judged, follows_pure}
use Rattle.sag_engine.proofs.PrintLemmas.{runs_then, runs_halt}
use Rattle.sag_engine.proofs.command_attain.run_attain.Goals as goal

pub returns-in_err-table : goal.returns-in_err-table
returns-in_err-table g c =
    let p = err_from_is_err_and c.from_residual.result c.from_residual.ensures.1 in
    rw (p.1, p.2) (runs_halt (λ w. w) _ (follows_halt _ _ _ _ c.in_err-table.ensures))

pub returns-in_err-job : goal.returns-in_err-job
unfolding job_plan
returns-in_err-job g c =
    let p = err_from_is_err_and c.from_residual-in_err-job.result c.from_residual-in_err-job.ensures.1 in
    rw (p.1, p.2) (runs_halt (λ w. w) _ (follows_then _ _ _ _ c.in_ok-table.ensures (follows_halt _ _ _ _ (follows_judged _ _ c.in_err-job.ensures))))

pub print_end-requires : goal.print_end-requires
unfolding job_plan
print_end-requires g c = record {
  no_edges = table_no_edges _ _ _ c.in_ok-table.ensures.end;
  job = c.in_ok-job.ensures.end.0;
  some_budget = c.requires.some_budget;
  small_budget = c.requires.small_budget;
}

pub returns : goal.returns
unfolding job_plan
returns g c = runs_then _ (Attains c.in_ok-table.table c.in_ok-job.job c.args.end c.args.budget)
    (follows_then _ _ _ _ c.in_ok-table.ensures (follows_then _ _ _ _ (follows_judged _ _ c.in_ok-job.ensures) (follows_pure _ _ _ _ refl)))
    refl
    c.print_end.ensures
