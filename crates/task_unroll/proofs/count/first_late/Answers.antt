use Rattle.std.proofs.Common.{◌<◌, get_or, length, take, sym, arith}
use Rattle.std.proofs.lemmas.List.{take_all}
use Rattle.std.proofs.lemmas.List.Elements.{All-more, All-same}
use Rattle.task_unroll.specs.TaskFaults.{no_task}
use Rattle.task_unroll.specs.UnrollFaults.{IsLate}
use Rattle.task_unroll.proofs.UnrollFaults.{late-at}
use Rattle.task_unroll.proofs.count.first_late.Goals as goal

pub returns-then-is_late-clause-late : goal.returns-then-is_late-clause-late
returns-then-is_late-clause-late c = late-at c.args.tasks.now c.args.horizon c.loop-i.i (omega arith) c.loop-i.invariant (c.is_late.ensures.0 c.if-is_late.true)

pub loop-i-preserved : goal.loop-i-preserved
loop-i-preserved c =
    let tasks = c.args.tasks.now in
    let on_time : ¬ IsLate c.args.horizon (get_or tasks c.loop-i.i no_task) = λ late. let is = c.is_late.ensures.1 late in cc (is, c.if-is_late.false) in
    let below : c.loop-i.i < length tasks = omega arith in
    All-more (λ a. ¬ IsLate c.args.horizon a) tasks c.loop-i.i no_task below c.loop-i.invariant on_time

pub returns-clause-none : goal.returns-clause-none
returns-clause-none c =
    let tasks = c.args.tasks.now in
    All-same (λ a. ¬ IsLate c.args.horizon a) tasks (take c.loop-i.i tasks) (sym (take_all c.loop-i.i tasks (omega arith))) c.loop-i.invariant
