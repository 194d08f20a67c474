use Rattle.std.proofs.Common.{refl}
use Rattle.std.proofs.lemmas.Result.{err_from_is_err_and}
use Rattle.sag_engine.specs.Work.Work.{WhatIfs}
use Rattle.sag_engine.proofs.WhatIfLemmas.{accepted_costs, accepted_jobs}
use Rattle.sag_engine.proofs.PlanLemmas.{follows_then, follows_halt, follows_pure}
use Rattle.sag_engine.proofs.PrintLemmas.{runs_then, runs_halt}
use Rattle.sag_engine.proofs.command_whatif.run_whatif.Goals as goal

pub returns-in_err-table : goal.returns-in_err-table
returns-in_err-table g c =
    let p = err_from_is_err_and c.from_residual.result c.from_residual.ensures.1 in
    rw (p.1, p.2) (runs_halt (λ w. w) _ (follows_halt _ _ _ _ c.in_err-table.ensures))

pub returns-in_err-edits : goal.returns-in_err-edits
returns-in_err-edits g c =
    let p = err_from_is_err_and c.from_residual-in_err-edits.result c.from_residual-in_err-edits.ensures.1 in
    rw (p.1, p.2) (runs_halt (λ w. w) _ (follows_then _ _ _ _ c.in_ok-table.ensures (follows_halt _ _ _ _ c.in_err-edits.ensures)))

pub print_edited-requires : goal.print_edited-requires
print_edited-requires g c = record {
  some_core = c.requires.some_core;
  few_cores = c.requires.few_cores;
  some_budget = c.requires.some_budget;
  small_budget = c.requires.small_budget;
  in_range = rw c.deref.ensures.value (accepted_jobs _ _ _ _ c.in_ok-edits.ensures.end);
  costs = rw c.deref.ensures.value (accepted_costs _ _ _ _ c.in_ok-edits.ensures.end);
}

pub returns : goal.returns
returns g c = runs_then _ (WhatIfs c.in_ok-table.table c.in_ok-edits.edits.items c.args.cores c.args.budget)
    (follows_then _ _ _ _ c.in_ok-table.ensures (follows_then _ _ _ _ c.in_ok-edits.ensures (follows_pure _ _ _ _ refl)))
    refl
    (rw c.deref.ensures.value at c.print_edited.ensures)
