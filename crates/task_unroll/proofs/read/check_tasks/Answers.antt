use Rattle.std.proofs.Common.{◌∙◌, ◌+◌, take, get_or, sym, arith, rules, refl, true, false}
use Rattle.std.proofs.lemmas.List.{take_more}
use Rattle.std.proofs.lemmas.Result.{err_from_is_err_and}
use Rattle.task_unroll.specs.TaskFaults.{no_task}
use Rattle.task_unroll.specs.declared.fault.TaskFault.TheVariants as fault
use Rattle.task_unroll.proofs.TaskLists.{Inserts, broken-at, fault-of, id_added, id_repeats, tasks_empty}
use Rattle.task_unroll.proofs.read.check_tasks.Goals as goal

pub loop-i-init : goal.loop-i-init
loop-i-init c = record { are = tasks_empty; ids = search rules }

pub returns-in_err-check_task-clause-fault : goal.returns-in_err-check_task-clause-fault
returns-in_err-check_task-clause-fault c =
    let p = err_from_is_err_and c.from_residual.result c.from_residual.ensures.1 in
    let tasks = c.args.tasks.now in
    let i = c.loop-i.i in
    let e = c.in_err-check_task.field-0.0 in
    let broken = broken-at tasks i e (omega arith) c.loop-i.invariant.are (c.in_err-check_task.ensures.fault (take i tasks)) in
    rw (p.1, p.2) (λ bytes reads. fault-of bytes tasks e reads broken)

pub returns-then-not-is_new-clause-fault : goal.returns-then-not-is_new-clause-fault
returns-then-not-is_new-clause-fault c bytes reads =
    let tasks = c.args.tasks.now in
    let i = c.loop-i.i in
    let place = c.in-Ok-insert_full.place in
    let at = c.in-Ok-insert_full.ensures in
    let inserts : Inserts (take i tasks) (get_or tasks i no_task) c.loop-i.ids.keys c.insert_full.new.self.keys place false = record {
      ids = c.loop-i.invariant.ids;
      added = sym c.if-not-is_new.true ∙ at.added;
      keys_are = at.keys;
      stored = at.stored;
    } in
    let repeats = id_repeats (take i tasks) (get_or tasks i no_task) c.loop-i.ids.keys c.insert_full.new.self.keys place inserts in
    let broken = broken-at tasks i (fault.Twice (i + 1) (place + 1)) (omega arith) c.loop-i.invariant.are (refl, c.in_ok-check_task.ensures.task, place, repeats.0, refl, repeats.1) in
    fault-of bytes tasks (fault.Twice (i + 1) (place + 1)) reads broken

pub loop-i-preserved : goal.loop-i-preserved
loop-i-preserved c =
    let tasks = c.args.tasks.now in
    let i = c.loop-i.i in
    let place = c.in-Ok-insert_full.place in
    let at = c.in-Ok-insert_full.ensures in
    let inserts : Inserts (take i tasks) (get_or tasks i no_task) c.loop-i.ids.keys c.insert_full.new.self.keys place true = record {
      ids = c.loop-i.invariant.ids;
      added = sym c.if-not-is_new.false ∙ at.added;
      keys_are = at.keys;
      stored = at.stored;
    } in
    let next = id_added (take i tasks) (get_or tasks i no_task) c.loop-i.ids.keys c.insert_full.new.self.keys place inserts c.loop-i.invariant.are c.in_ok-check_task.ensures.task in
    let more = take_more tasks i no_task (omega arith) in
    record { are = rw more next.0; ids = rw more next.1 }
