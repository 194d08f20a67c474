use Rattle.std.proofs.Common.{◌≡◌, ◌<◌, length, get_or, sym, ap, ◌∙◌, arith}
use Rattle.std.proofs.lemmas.List.Elements.{All-contains}
use Rattle.job_model.specs.Table.{successors}
use Rattle.job_model.proofs.NeighbourLemmas.{successors_below}
use Rattle.replay.proofs.Unblocked.{lacks_next, Unblocks-next}
use Rattle.replay.proofs.queues.Queues.unblock.Goals as goal

pub count_predecessor-requires : goal.count_predecessor-requires
count_predecessor-requires c =
    let jobs = successors c.args.table.now c.args.job in
    let next = c.next-item.result in
    let at : next ≡ get_or jobs c.loop-next.next-index next = c.next-item.is ∙ ap (λ xs. get_or xs c.loop-next.next-index next) c.succs-next-items.ensures.succs in
    let less : c.loop-next.next-index < length jobs = omega (arith, c.loop-next-test.true, ap length c.succs-next-items.ensures.succs) in
    lacks_next c.args.table.now c.args.self.now c.loop-next.self c.args.finish jobs c.loop-next.next-index next less at c.loop-next.invariant c.requires.missing

pub loop-next-preserved : goal.loop-next-preserved
loop-next-preserved c =
    let jobs = successors c.args.table.now c.args.job in
    let next = c.next-item.result in
    let at : next ≡ get_or jobs c.loop-next.next-index next = c.next-item.is ∙ ap (λ xs. get_or xs c.loop-next.next-index next) c.succs-next-items.ensures.succs in
    let less : c.loop-next.next-index < length jobs = omega (arith, c.loop-next-test.true, ap length c.succs-next-items.ensures.succs) in
    Unblocks-next c.args.table.now c.args.self.now c.loop-next.self c.args.finish jobs c.loop-next.next-index next less at c.loop-next.invariant c.count_predecessor.new.self c.in_ok-count_predecessor.ensures
    (lacks_next c.args.table.now c.args.self.now c.loop-next.self c.args.finish jobs c.loop-next.next-index next less at c.loop-next.invariant c.requires.missing)
    (All-contains (λ s. s < length c.args.table.now.jobs) jobs next (successors_below c.args.table.now c.succs-next-items.ensures.table c.args.job) (c.loop-next.next-index, less, sym at))
