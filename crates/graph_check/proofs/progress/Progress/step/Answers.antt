use Rattle.std.proofs.Common.{ap, subst, sym, arith, Ok}
use Rattle.graph_check.specs.Comings.{Comes, HeldProgress}
use Rattle.graph_check.proofs.LineOutcomes.{few-edges, lines-kept, steps-broken, steps-on}
use Rattle.graph_check.proofs.progress.Progress.step.Goals as goal

pub overflow_add-self : goal.overflow_add-self
overflow_add-self c =
    let old = c.args.self.now in
    let lines = lines-kept old.table old.cores old.progress c.args.line.now c.take.new.self.progress (tt {0}) c.in-Ok.ensures.comes in
    let view = ap (λ (h : HeldProgress). h.progress.lines) c.self.view_is in
    omega (arith, lines, view, c.requires.few_lines)

pub returns-in-Ok-clause-step : goal.returns-in-Ok-clause-step
returns-in-Ok-clause-step c =
    let old = c.args.self.now in
    steps-on old.table old.cores old.progress c.args.line.now _ (tt {0}) (subst (λ (h : HeldProgress). Comes old.table old.cores old.progress c.args.line.now (Ok (tt {0})) h.progress) (sym c.self.view_is) c.in-Ok.ensures.comes)

pub returns-in-Ok-clause-few_edges : goal.returns-in-Ok-clause-few_edges
returns-in-Ok-clause-few_edges c =
    let old = c.args.self.now in
    few-edges old.table old.cores old.progress c.args.line.now _ (tt {0}) (subst (λ (h : HeldProgress). Comes old.table old.cores old.progress c.args.line.now (Ok (tt {0})) h.progress) (sym c.self.view_is) c.in-Ok.ensures.comes)
    c.requires.few_edges

pub returns-in-Err-clause-step : goal.returns-in-Err-clause-step
returns-in-Err-clause-step c =
    let old = c.args.self.now in
    steps-broken old.table old.cores old.progress c.args.line.now _ c.in-Err.broken _ c.in-Err.ensures.comes
