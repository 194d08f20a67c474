use Rattle.std.proofs.Common.{◌∙◌, ◌+◌, ap, arith}
use Rattle.sag_engine.specs.Selftest.{is_timely}
use Rattle.sag_engine.proofs.SelftestLemmas.{at_most_one, counted}
use Rattle.sag_engine.proofs.command_selftest.count_misses.Goals as goal

pub overflow_add-misses : goal.overflow_add-misses
overflow_add-misses c = omega (arith, c.loop-j.invariant.0, at_most_one c.is_in_time.result c.from-misses.result c.from-misses.ensures)

pub loop-j-preserved : goal.loop-j-preserved
loop-j-preserved c = (
  omega (arith, c.loop-j.invariant.0, at_most_one c.is_in_time.result c.from-misses.result c.from-misses.ensures),
  ap (λ x. x + c.from-misses.result) c.loop-j.invariant.1
      ∙ counted (is_timely c.args.table.now c.args.graph.now.spans) c.loop-j.j c.is_in_time.result c.from-misses.result c.is_in_time.ensures c.from-misses.ensures,
)
