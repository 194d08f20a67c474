use Rattle.std.proofs.Common.{◌≡◌, ◌<◌, length, map, ◌∙◌, ap}
use Rattle.std.proofs.lemmas.List.Elements.{All-from_recursion}
use Rattle.run_meaning.specs.Order.{dispatch_order}
use Rattle.run_meaning.proofs.Sorted.{dispatch_below}
use Rattle.replay.specs.ScheduleText.{schedule_row}
use Rattle.replay.proofs.schedule.write_schedule.Goals as goal

pub rows_of-requires-clause-jobs : goal.rows_of-requires-clause-jobs
rows_of-requires-clause-jobs c =
    let order = dispatch_order c.args.table.now c.args.schedule.now in
    let jobs : c.deref.result.now ≡ order = c.deref.ensures.value ∙ c.in_ok-order.ensures in
    rw jobs (All-from_recursion (λ j. j < length c.args.table.now.jobs) order (dispatch_below c.args.table.now c.args.schedule.now))

pub returns : goal.returns
returns c =
    let row = schedule_row c.args.table.now c.args.scenario.now c.args.schedule.now in
    let order = dispatch_order c.args.table.now c.args.schedule.now in
    let jobs : c.deref.result.now ≡ order = c.deref.ensures.value ∙ c.in_ok-order.ensures in
    let rows : c.deref-2.result.now ≡ map row order = c.deref-2.ensures.value ∙ c.in_ok-rows.ensures ∙ ap (map row) jobs in
    rw rows at c.write_table.ensures.text
