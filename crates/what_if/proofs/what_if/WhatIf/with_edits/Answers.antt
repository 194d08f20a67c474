use Rattle.std.proofs.Common.{◌<◌, arith, length, subst, sym}
use Rattle.std.proofs.lemmas.List.{drop_all}
use Rattle.what_if.proofs.EditLemmas.{all_made, left_are, next_left, none_made, none_spent, one_more, stopped}
use Rattle.what_if.proofs.what_if.WhatIf.with_edits.Goals as goal

pub loop-edit-init : goal.loop-edit-init
loop-edit-init c = none_made c.args.self c.args.edits.now c.budget-budget.ensures.within

pub edit-requires : goal.edit-requires
edit-requires c =
    let own : c.edit-item.result.job < length c.args.self.table.jobs =
    subst (λ e. e.job < length c.args.self.table.jobs) (sym c.edit-item.is) (c.requires.in_range c.loop-edit.edit-index c.edit-item.result c.loop-edit-test.true) in
    omega (arith, own, c.loop-edit.invariant.count)

pub loop-edit-preserved : goal.loop-edit-preserved
loop-edit-preserved c =
    let left = next_left c.args.edits.now c.loop-edit.edit-index c.edit-item.result c.loop-edit-test.true c.edit-item.is in
    one_more c.edit-item.result (left_are left c.loop-edit.invariant) c.edit.new.self c.in-Ok.ensures.edited c.in-Ok.ensures.within

pub returns-in-Err-Spent-clause-untaken : goal.returns-in-Err-Spent-clause-untaken
returns-in-Err-Spent-clause-untaken c =
    let left = next_left c.args.edits.now c.loop-edit.edit-index c.edit-item.result c.loop-edit-test.true c.edit-item.is in
    let refused = rw c.in-Err-Spent.field-0-is at c.in-Err-Spent.ensures.refused in
    rw c.in-Err-Spent.field-0-is (stopped c.edit-item.result (left_are left c.loop-edit.invariant) _ refused.1)

pub returns-clause-edited : goal.returns-clause-edited
returns-clause-edited c = all_made (left_are (drop_all c.loop-edit.edit-index c.args.edits.now c.loop-edit-test.false) c.loop-edit.invariant)

pub returns-clause-within : goal.returns-clause-within
returns-clause-within c = none_spent (left_are (drop_all c.loop-edit.edit-index c.args.edits.now c.loop-edit-test.false) c.loop-edit.invariant)
