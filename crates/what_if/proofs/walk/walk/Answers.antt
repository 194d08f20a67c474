use Rattle.std.proofs.Common.{arith}
use Rattle.std.proofs.lemmas.Result.{err_from_is_err_and}
use Rattle.what_if.proofs.Walks.{stops, walked, walks_on}
use Rattle.what_if.proofs.walk.walk.Goals as goal

pub loop-preserved : goal.loop-preserved
loop-preserved c =
    walks_on c.args.table.now c.args.cores c.args.budget c.loop.counter c.loop.builder c.loop.invariant c.in_ok-next_level.field-0 c.next_level.new.self
    c.in_ok-next_level.ensures.up c.in_ok-next_level.ensures.last (omega (arith, c.len-end.ensures.count))

pub returns-in_err-next_level-clause-over : goal.returns-in_err-next_level-clause-over
returns-in_err-next_level-clause-over c =
    let p = err_from_is_err_and c.from_residual-in_err-next_level.result c.from_residual-in_err-next_level.ensures.1 in
    rw (p.1, p.2) (stops c.args.table.now c.args.cores c.args.budget c.loop.counter c.loop.builder c.loop.invariant c.in_err-next_level.field-0.0 c.in_err-next_level.ensures.spent)

pub returns-clause-within : goal.returns-clause-within
returns-clause-within c =
    walked c.args.table.now c.args.cores c.args.budget c.loop.counter c.loop.builder c.loop.invariant c.whole_graph_is_within.ensures c.level-level.ensures.standing
    (omega (arith, c.len-end.ensures.count))
