use Rattle.std.proofs.Common.{arith, ◌∙◌, sym}
use Rattle.std.proofs.lemmas.Bool.{false≢true}
use Rattle.sag_step.proofs.TracksNext.{refused, passed}
use Rattle.sag_step.proofs.tracking.pass_job.Goals as goal

pub returns-then-not-lists_at-clause-none : goal.returns-then-not-lists_at-clause-none
returns-then-not-lists_at-clause-none c =
    refused c.args.table.now c.args.set.now.members c.args.ends.now.items c.args.place c.args.job (sym c.is_tracked.ensures ∙ c.if-not-is_tracked.false)
    (λ here. false≢true (sym c.if-not-lists_at.true ∙ c.lists_at.ensures.1 here))

pub overflow_add-result : goal.overflow_add-result
overflow_add-result c =
    let more = passed c.args.table.now c.args.set.now.members c.args.ends.now.items c.args.place c.args.job (sym c.is_tracked.ensures ∙ c.if-not-is_tracked.false) (c.lists_at.ensures.0 c.if-not-lists_at.false) in
    omega (arith, more.within)

pub returns-clause-some : goal.returns-clause-some
returns-clause-some c =
    passed c.args.table.now c.args.set.now.members c.args.ends.now.items c.args.place c.args.job (sym c.is_tracked.ensures ∙ c.if-not-is_tracked.false) (c.lists_at.ensures.0 c.if-not-lists_at.false)
