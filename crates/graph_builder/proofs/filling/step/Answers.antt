use Rattle.std.proofs.Common.{◌+◌, ◌≤◌, ◌∙◌, sym, subst, arith}
use Rattle.job_model.specs.declared.limits.TheConstants.{MOST_JOBS}
use Rattle.sag_step.specs.declared.TheConstants.{MOST_STEP_TIME}
use Rattle.sag_step.specs.Shape.{IsState}
use Rattle.sag_step.specs.Next.{next}
use Rattle.sag_step.proofs.NextStates.{IsUpTo-weaker, scratch_has_room, next_is_state}
use Rattle.graph_builder.specs.Fit.{IsReady, most_at}
use Rattle.graph_builder.proofs.FitLemmas.{arrival-most, most-few, most-more, ready-next}
use Rattle.graph_builder.proofs.filling.step.Goals as goal

pub make_next-requires-clause-state : goal.make_next-requires-clause-state
make_next-requires-clause-state c =
    let is = c.requires.ready.is_state in
    subst (λ n. IsState c.args.table.now n c.args.state.now.state) (sym is.shape.low_count) is

pub make_next-requires-clause-into : goal.make_next-requires-clause-into
make_next-requires-clause-into c =
    subst (λ n. IsState c.args.table.now n c.args.into.now.state) (sym c.requires.ready.is_state.shape.low_count) c.requires.into.is_state

pub make_next-requires-clause-in_limit : goal.make_next-requires-clause-in_limit
make_next-requires-clause-in_limit c =
    let few : c.args.level ≤ MOST_JOBS = omega (arith, c.requires.level, c.len-count.ensures.table.few_jobs) in
    IsUpTo-weaker (most_at c.args.level) MOST_STEP_TIME c.args.state.now.state (most-few c.args.level few) c.requires.ready.in_limit

pub make_next-requires-clause-room : goal.make_next-requires-clause-room
make_next-requires-clause-room c =
    let few = scratch_has_room c.args.table.now c.args.cores c.args.state.now.state c.args.job c.args.window c.requires.ready.is_state c.requires.window in
    omega (arith, few, c.requires.into.room)

pub returns-clause-ready : goal.returns-clause-ready
returns-clause-ready c =
    let ready = ready-next c.args.table.now c.args.cores (most_at c.args.level) c.args.state.now.state c.args.front c.args.job c.args.window
    c.len-count.ensures.table (arrival-most c.args.level) c.requires.ready c.requires.window c.fronts_are_handed_down.ensures in
    subst (λ s. IsReady c.args.table.now c.args.cores (most_at (c.args.level + 1)) s c.args.front) (sym c.make_next.ensures.next)
    (subst (λ n. IsReady c.args.table.now c.args.cores n (next c.args.table.now c.args.state.now.state c.args.job c.args.window) c.args.front) (most-more c.args.level) ready)

pub returns-clause-into : goal.returns-clause-into
returns-clause-into c = record {
  is_state = subst (IsState c.args.table.now c.args.cores) (sym c.make_next.ensures.next)
      (next_is_state c.args.table.now c.args.cores c.args.state.now.state c.args.job c.args.window c.len-count.ensures.table c.requires.ready.is_state c.requires.window);
  room = c.make_next.ensures.room ∙ c.requires.into.room;
}
