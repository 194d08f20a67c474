use Rattle.std.proofs.Common.{length, ap, ◌∙◌, arith}
use Rattle.std.proofs.lemmas.List.{length-replicate}
use Rattle.replay.specs.Queues.{is_dispatched}
use Rattle.replay.proofs.UnderwayLemmas.{AreFree-first, IsLoopTurn, IsUnderway-first, Legal-from_underway, LoopKeeps-turned, LowestIdle-from_underway, lack_turned}
use Rattle.replay.proofs.Lacking.{AreCounted-first}
use Rattle.replay.proofs.dispatch.replay.Goals as goal

pub loop-turn-init : goal.loop-turn-init
loop-turn-init c =
    let queues = c.in_ok-queues.queues in
    let all = c.in_ok-queues.ensures in
    let all_places = c.in_ok-places.ensures.items_if_clones_equal (λ y h. h) in
    record {
      stands = IsUnderway-first c.args.table.now c.args.cores c.args.scenario.now (is_dispatched queues) c.in_ok-places.places.items all.none
          (ap length all_places ∙ length-replicate c.len-count.result _ ∙ c.len-count.ensures.count);
      frees = AreFree-first c.args.table.now c.args.cores c.args.scenario.now (is_dispatched queues) c.in_ok-places.places.items all.none
          c.in_ok-free.free.items (c.in_ok-free.ensures.items_if_clones_equal (λ y h. h));
      counted = AreCounted-first c.args.table.now c.args.scenario.now c.len-count.ensures.table c.requires.fits c.in_ok-places.places.items queues all;
      queues = all.queues;
    }

pub unblock-requires-clause-missing : goal.unblock-requires-clause-missing
unblock-requires-clause-missing c =
    let turn : IsLoopTurn c.args.table.now c.args.cores c.args.scenario.now c.loop-turn.queues c.next_turn.new.queues c.loop-turn.places.items c.loop-turn.free.items c.deref.result.now
    c.loop-turn.clock c.loop-turn._turn c.in_ok-job.job c.in_ok-job.core c.in_ok-job.time c.job.inside.0 c.cost.result = record {
      is_table = c.len-count.ensures.table;
      fits = c.requires.fits;
      keeps = c.loop-turn.invariant;
      same = c.deref.ensures.value;
      next = c.in_ok-job.ensures;
      at = c.job.view_is;
      costs = c.cost.ensures;
    } in
    lack_turned turn

pub loop-turn-preserved : goal.loop-turn-preserved
loop-turn-preserved c =
    let turn : IsLoopTurn c.args.table.now c.args.cores c.args.scenario.now c.loop-turn.queues c.next_turn.new.queues c.loop-turn.places.items c.loop-turn.free.items c.deref.result.now
    c.loop-turn.clock c.loop-turn._turn c.in_ok-job.job c.in_ok-job.core c.in_ok-job.time c.job.inside.0 c.cost.result = record {
      is_table = c.len-count.ensures.table;
      fits = c.requires.fits;
      keeps = c.loop-turn.invariant;
      same = c.deref.ensures.value;
      next = c.in_ok-job.ensures;
      at = c.job.view_is;
      costs = c.cost.ensures;
    } in
    LoopKeeps-turned turn c.unblock.new.self c.in_ok-unblock.ensures

pub returns-clause-legal : goal.returns-clause-legal
returns-clause-legal c =
    Legal-from_underway c.args.table.now c.args.cores c.args.scenario.now c.len-count.ensures.table c.requires.fits _ c.loop-turn.places.items c.loop-turn.clock c.loop-turn._turn c.loop-turn.invariant.stands
    (omega arith)

pub returns-clause-lowest_idle : goal.returns-clause-lowest_idle
returns-clause-lowest_idle c =
    LowestIdle-from_underway c.args.table.now c.args.cores c.args.scenario.now c.len-count.ensures.table c.requires.fits _ c.loop-turn.places.items c.loop-turn.clock c.loop-turn._turn c.loop-turn.invariant.stands
    (omega arith)
