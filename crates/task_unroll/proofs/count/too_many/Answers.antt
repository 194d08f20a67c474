use Rattle.std.proofs.Common.{◌≡◌, ◌+◌, ◌<◌, ◌≤◌, get_or, length, take, refl, arith}
use Rattle.std.proofs.lemmas.List.Sums.{sum_by_more, sum_by_more_le}
use Rattle.task_unroll.specs.TaskFaults.{no_task}
use Rattle.task_unroll.specs.Unrolled.{released_count, releases_of}
use Rattle.task_unroll.proofs.Counts.{length-releases}
use Rattle.task_unroll.proofs.count.too_many.Goals as goal

pub returns-then-from-jobs : goal.returns-then-from-jobs
returns-then-from-jobs c =
    let tasks = c.args.tasks.now in
    let horizon = c.args.horizon in
    let i = c.loop-task.task-index in
    let below : i < length tasks = omega arith in
    let here = length-releases (get_or tasks i no_task) horizon c.count_releases-jobs.result c.count_releases-jobs.ensures.count in
    let all : released_count (take i tasks) horizon + length (releases_of (get_or tasks i no_task) horizon) ≤ released_count tasks horizon =
    sum_by_more_le (λ a. length (releases_of a horizon)) tasks i no_task below in
    ((λ yes. omega (arith, here, all, c.loop-task.invariant.counted, c.from.ensures, c.if-from-jobs.true)), (λ many. refl))

pub loop-task-preserved : goal.loop-task-preserved
loop-task-preserved c =
    let tasks = c.args.tasks.now in
    let horizon = c.args.horizon in
    let i = c.loop-task.task-index in
    let below : i < length tasks = omega arith in
    let here = length-releases (get_or tasks i no_task) horizon c.count_releases-jobs.result c.count_releases-jobs.ensures.count in
    let more : released_count (take (i + 1) tasks) horizon ≡ released_count (take i tasks) horizon + length (releases_of (get_or tasks i no_task) horizon) =
    sum_by_more (λ a. length (releases_of a horizon)) tasks i no_task below in
    record { counted = omega (arith, here, more, c.loop-task.invariant.counted); few = omega (arith, c.from.ensures, c.if-from-jobs.false) }
