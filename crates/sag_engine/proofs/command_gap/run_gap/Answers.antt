use Rattle.std.proofs.Common.{refl}
use Rattle.std.proofs.lemmas.Result.{err_from_is_err_and}
use Rattle.sag_engine.specs.Gap.{trial_plan}
use Rattle.sag_engine.specs.Work.Work.{Gaps}
use Rattle.sag_engine.proofs.GapLemmas.{gap_replies, gap_spent, prints_spent}
use Rattle.sag_engine.proofs.PlanLemmas.{follows_then, follows_halt, follows_judged, follows_pure}
use Rattle.sag_engine.proofs.PrintLemmas.{runs_then, runs_halt, runs_memory}
use Rattle.sag_engine.proofs.command_gap.run_gap.Goals as goal

pub returns-in_err-table : goal.returns-in_err-table
returns-in_err-table g c =
    let p = err_from_is_err_and c.from_residual.result c.from_residual.ensures.1 in
    rw (p.1, p.2) (runs_halt (λ w. w) _ (follows_halt _ _ _ _ c.in_err-table.ensures))

pub returns-in_err-known : goal.returns-in_err-known
unfolding trial_plan
returns-in_err-known g c =
    let p = err_from_is_err_and c.from_residual-in_err-known.result c.from_residual-in_err-known.ensures.1 in
    rw (p.1, p.2) (runs_halt (λ w. w) _ (follows_then _ _ _ _ c.in_ok-table.ensures (follows_halt _ _ _ _ (follows_judged _ _ c.in_err-known.ensures))))

pub output_of-requires : goal.output_of-requires
output_of-requires g c = record {
  some_core = c.requires.some_core;
  few_cores = c.requires.few_cores;
  some_budget = c.requires.some_budget;
  small_budget = c.requires.small_budget;
  trial = c.in_ok-known.ensures.end.1;
}

pub returns-in-Ok : goal.returns-in-Ok
unfolding trial_plan
returns-in-Ok g c = runs_then _ (Gaps c.in_ok-table.table c.args.cores c.args.budget c.in_ok-known.known)
    (follows_then _ _ _ _ c.in_ok-table.ensures (follows_then _ _ _ _ (follows_judged _ _ c.in_ok-known.ensures) (follows_pure _ _ _ _ refl)))
    (gap_replies _ _ _ _ _ c.in-Ok.ensures.within c.in-Ok.ensures.output)
    (rw c.deref.ensures.value at c.print.ensures)

pub returns-in-Err-Spent : goal.returns-in-Err-Spent
unfolding trial_plan
returns-in-Err-Spent g c =
    let over = rw c.in-Err-Spent.field-0-is at c.in-Err-Spent.ensures.over in
    runs_then _ (Gaps c.in_ok-table.table c.args.cores c.args.budget c.in_ok-known.known)
    (follows_then _ _ _ _ c.in_ok-table.ensures (follows_then _ _ _ _ (follows_judged _ _ c.in_ok-known.ensures) (follows_pure _ _ _ _ refl)))
    (gap_spent _ _ _ _ _ _ _ over)
    (prints_spent c.close_spent.ensures.writes c.close_spent.ensures.conclusion)

pub returns : goal.returns
unfolding trial_plan
returns g c = runs_memory _ (Gaps c.in_ok-table.table c.args.cores c.args.budget c.in_ok-known.known)
    (follows_then _ _ _ _ c.in_ok-table.ensures (follows_then _ _ _ _ (follows_judged _ _ c.in_ok-known.ensures) (follows_pure _ _ _ _ refl)))
