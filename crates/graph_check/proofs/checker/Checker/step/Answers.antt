use Rattle.std.proofs.Common.{◌+◌, ◌++◌, ◌∷◌, [], Some, ap, sym, subst, arith}
use Rattle.graph_check.specs.Answers.{kept_of}
use Rattle.graph_check.proofs.KeptLines.{Steps, counted, few-lines, keeps-on, kept-next, open-view, step-lines, stepped-err, stepped-ok}
use Rattle.graph_check.proofs.checker.Checker.step.Goals as goal

pub invariant_of-self : goal.invariant_of-self
invariant_of-self c =
    let p = c.self.inside.progress in
    let old = c.args.self.now in
    let is = open-view p.table p.cores p.progress c.self.inside.answer old c.in_default.is c.self.view_is in
    let few = few-lines p.table p.cores p.progress old is c.requires.few_lines in
    let more = step-lines p.table p.cores p.progress c.step.new.self.progress c.args.line c.in-Ok.ensures.step in
    let (lines, kept_is) = (rw c.in_default.is at c.self.invariant).2 in
    let next = kept-next p.table p.cores p.progress c.step.new.self.progress c.args.line lines kept_is c.in-Ok.ensures.step in
    rw c.in_default.is (c.in-Ok.ensures.few_edges, omega (arith, few, more), (lines ++ c.args.line ∷ [], rw (c.step.ensures.table, c.step.ensures.cores) next))

pub returns-in-Ok-clause-step : goal.returns-in-Ok-clause-step
returns-in-Ok-clause-step c =
    let p = c.self.inside.progress in
    let old = c.args.self.now in
    let is = open-view p.table p.cores p.progress c.self.inside.answer old c.in_default.is c.self.view_is in
    rw c.in_default.is (stepped-ok old c.args.line p.table p.cores p.progress is c.step.new.self.progress c.in-Ok.ensures.step)

pub returns-in-Ok-clause-kept : goal.returns-in-Ok-clause-kept
returns-in-Ok-clause-kept c =
    let p = c.self.inside.progress in
    let old = c.args.self.now in
    let is = open-view p.table p.cores p.progress c.self.inside.answer old c.in_default.is c.self.view_is in
    keeps-on old c.args.line (kept_of c.self.inside.answer c.step.new.self.progress) (rw c.in_default.is (stepped-ok old c.args.line p.table p.cores p.progress is c.step.new.self.progress c.in-Ok.ensures.step))

pub returns-clause-step : goal.returns-clause-step
returns-clause-step c =
    let p = c.self.inside.progress in
    let old = c.args.self.now in
    let is = open-view p.table p.cores p.progress c.self.inside.answer old c.in_default.is c.self.view_is in
    subst (λ a. Steps old c.args.line (kept_of (Some a) c.forget_states.new.self.progress)) (sym c.answer_at-answer.ensures)
    (stepped-err old c.args.line p.table p.cores p.progress is c.in-Err.broken c.step.new.self.progress c.forget_states.new.self.progress (c.lines-number.result + 1) (ap (λ n. n + 1) c.lines-number.ensures) c.in-Err.ensures.step)

pub returns-clause-kept : goal.returns-clause-kept
returns-clause-kept c =
    let p = c.self.inside.progress in
    let old = c.args.self.now in
    let is = open-view p.table p.cores p.progress c.self.inside.answer old c.in_default.is c.self.view_is in
    keeps-on old c.args.line (kept_of (Some c.answer_at-answer.result) c.forget_states.new.self.progress)
    (subst (λ a. Steps old c.args.line (kept_of (Some a) c.forget_states.new.self.progress)) (sym c.answer_at-answer.ensures)
    (stepped-err old c.args.line p.table p.cores p.progress is c.in-Err.broken c.step.new.self.progress c.forget_states.new.self.progress (c.lines-number.result + 1) (ap (λ n. n + 1) c.lines-number.ensures) c.in-Err.ensures.step))

pub returns-in-Ok-clause-count : goal.returns-in-Ok-clause-count
returns-in-Ok-clause-count c =
    let p = c.self.inside.progress in
    let old = c.args.self.now in
    let is = open-view p.table p.cores p.progress c.self.inside.answer old c.in_default.is c.self.view_is in
    counted old c.args.line (kept_of c.self.inside.answer c.step.new.self.progress) (rw c.in_default.is (stepped-ok old c.args.line p.table p.cores p.progress is c.step.new.self.progress c.in-Ok.ensures.step))

pub returns-clause-count : goal.returns-clause-count
returns-clause-count c =
    let p = c.self.inside.progress in
    let old = c.args.self.now in
    let is = open-view p.table p.cores p.progress c.self.inside.answer old c.in_default.is c.self.view_is in
    counted old c.args.line (kept_of (Some c.answer_at-answer.result) c.forget_states.new.self.progress)
    (subst (λ a. Steps old c.args.line (kept_of (Some a) c.forget_states.new.self.progress)) (sym c.answer_at-answer.ensures)
    (stepped-err old c.args.line p.table p.cores p.progress is c.in-Err.broken c.step.new.self.progress c.forget_states.new.self.progress (c.lines-number.result + 1) (ap (λ n. n + 1) c.lines-number.ensures) c.in-Err.ensures.step))
