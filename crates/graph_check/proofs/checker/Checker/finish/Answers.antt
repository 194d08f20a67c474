use Rattle.std.proofs.Common.{◌∙◌, ap, subst}
use Rattle.job_model.specs.Table.{IsTable}
use Rattle.graph_check.specs.Kept.{HeldChecker}
use Rattle.graph_check.proofs.Accepted.{finish-jobs, finish-sound, finish-valid, of-lines}
use Rattle.graph_check.proofs.checker.Checker.finish.Goals as goal

pub returns-clause-valid : goal.returns-clause-valid
returns-clause-valid c = finish-valid c.args.self.table c.args.self.cores c.args.self.kept c.end.result c.end.ensures

pub returns-clause-jobs : goal.returns-clause-jobs
returns-clause-jobs c = finish-jobs c.args.self.table c.args.self.cores c.args.self.kept c.end.result c.end.ensures

pub returns-clause-sound : goal.returns-clause-sound
returns-clause-sound c =
    let p = c.self.inside.progress in
    let is_table = subst IsTable (c.table.ensures ∙ ap (λ (h : HeldChecker). h.table) c.self.view_is) c.len.ensures.table in
    let of_lines = of-lines p.table p.cores c.self.inside.answer p.progress c.args.self c.self.invariant c.self.view_is in
    finish-sound c.args.self.table c.args.self.cores c.a_yes_is_sound.ensures is_table c.args.self.kept c.end.result of_lines c.end.ensures
