use Rattle.std.proofs.lemmas.Option.{MatchOption-at_some}
use Rattle.replay.specs.Cores.{IsFirstFree, IsLowestBy}
use Rattle.replay.specs.Queues.{IsNextReady, TakesFirst}
use Rattle.replay.proofs.NextTurn.{ready_some, job_found, IsNext-found}
use Rattle.replay.proofs.dispatch.next_turn.Goals as goal

pub unwrap-time-requires : goal.unwrap-time-requires
unwrap-time-requires c =
    ready_some c.args.table.now c.args.cores c.args.scenario.now c.requires.table c.args.queues.now c.args.free.now c.args.clock c.max.result
    c.requires.stands c.next_ready.result c.next_ready.ensures

pub unwrap-job-requires : goal.unwrap-job-requires
unwrap-job-requires c =
    job_found c.args.table.now c.args.cores c.args.scenario.now c.requires.table c.requires.fits
    c.args.queues.now c.admit.new.self c.take.new.self c.args.free.now c.args.clock c.unwrap-idle.result c.max.result c.unwrap-time.result c.requires.stands c.max.ensures
    (MatchOption-at_some _ (IsNextReady c.args.queues.now c.max.result) c.unwrap-time.result c.unwrap-time.ensures c.next_ready.ensures)
    c.in_ok-admit.ensures.kept c.in_ok-admit.ensures.rest
    c.take.result c.take.ensures

pub returns : goal.returns
returns c =
    IsNext-found c.args.table.now c.args.cores c.args.scenario.now c.requires.table c.requires.fits
    c.args.queues.now c.admit.new.self c.take.new.self c.args.free.now c.args.clock c.unwrap-idle.result c.max.result c.unwrap-time.result c.requires.stands c.max.ensures
    (MatchOption-at_some _ (IsNextReady c.args.queues.now c.max.result) c.unwrap-time.result c.unwrap-time.ensures c.next_ready.ensures)
    c.in_ok-admit.ensures.kept c.in_ok-admit.ensures.rest
    c.unwrap-job.result c.unwrap-core.result
    (MatchOption-at_some _ (TakesFirst c.admit.new.self c.take.new.self) c.unwrap-job.result c.unwrap-job.ensures c.take.ensures)
    (MatchOption-at_some _ (IsFirstFree c.args.free.now) c.unwrap-idle.result c.unwrap-idle.ensures c.first_free.ensures)
    (MatchOption-at_some _ (IsLowestBy c.args.free.now c.unwrap-time.result) c.unwrap-core.result c.unwrap-core.ensures c.lowest_free.ensures)
