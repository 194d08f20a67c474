use Rattle.std.proofs.Common.{◌≡◌, ◌+◌, ◌-◌, [], length, set, arith, refl, ap, sym, ◌∙◌, subst, length-set}
use Rattle.one_core.specs.Extreme as specs
use Rattle.one_core.specs.Extreme.{settled_job}
use Rattle.one_core.specs.Walk.{IsOnWalk, overlaid}
use Rattle.one_core.proofs.Overlays.{overlaid-none, overlaid-settled_job}
use Rattle.one_core.proofs.WalkSteps.{IsWalkable, walkable-of}
use Rattle.one_core.proofs.walk.walk_back.Goals as goal
use Rattle.one_core.proofs.walk.walk_back.Goals.{After-len-count}

walkable : (c : After-len-count) → IsWalkable c.args.table.now c.args.graph.now
walkable c = walkable-of c.each_job_has_edge.ensures c.args.table.now c.args.graph.now c.len-count.ensures.table c.requires.no_edges c.requires.graph

pub loop-k-init : goal.loop-k-init
loop-k-init c = (c.requires.walk, c.requires.rows, refl)

pub settle-requires-clause-job : goal.settle-requires-clause-job
settle-requires-clause-job c = (walkable (goal.at.settle-requires-clause-job c).After-len-count).jobs c.loop-k.k c.loop-k.current c.loop-k.time c.loop-k.invariant.0

pub settle-requires-clause-rows : goal.settle-requires-clause-rows
settle-requires-clause-rows c = c.loop-k.invariant.1

pub edge_before-before-requires-clause-walk : goal.edge_before-before-requires-clause-walk
edge_before-before-requires-clause-walk c =
    let back : c.loop-k.k ≡ c.loop-k.k - 1 + 1 = omega (arith, c.loop-k-test.true) in
    subst (λ n. IsOnWalk c.args.table.now c.args.graph.now n c.loop-k.current c.loop-k.time) back c.loop-k.invariant.0

pub loop-k-preserved : goal.loop-k-preserved
loop-k-preserved c =
    let table = c.args.table.now in
    let rows = c.loop-k.rows.items in
    let e = c.loop-k.current in
    let rest = specs.walk_back table c.args.graph.now (c.loop-k.k - 1) c.edge_before-before.result.0 c.edge_before-before.result.1 in
    let back : c.loop-k.k - 1 + 1 ≡ c.loop-k.k = omega (arith, c.loop-k-test.true) in
    let is_job = (walkable (goal.at.loop-k-preserved c).After-len-count).jobs c.loop-k.k e c.loop-k.time c.loop-k.invariant.0 in (
      c.edge_before-before.ensures.walk,
      ap length c.settle.ensures ∙ length-set rows e.job (settled_job table e c.loop-k.time).1 ∙ c.loop-k.invariant.1,
      ap (λ rs. overlaid table rs rest) c.settle.ensures
          ∙ sym (overlaid-settled_job table rows e.job (settled_job table e c.loop-k.time).1 rest is_job c.loop-k.invariant.1 c.edge_before-before.ensures.alone)
          ∙ ap (overlaid table rows) (sym c.edge_before-before.ensures.rest)
          ∙ ap (λ n. overlaid table rows (specs.walk_back table c.args.graph.now n e c.loop-k.time)) back
          ∙ c.loop-k.invariant.2,
    )

pub settle-requires-2-clause-job : goal.settle-requires-2-clause-job
settle-requires-2-clause-job c = (walkable (goal.at.settle-requires-2-clause-job c).After-len-count).jobs c.loop-k.k c.loop-k.current c.loop-k.time c.loop-k.invariant.0

pub settle-requires-2-clause-rows : goal.settle-requires-2-clause-rows
settle-requires-2-clause-rows c = c.loop-k.invariant.1

pub returns : goal.returns
returns c =
    let table = c.args.table.now in
    let rows = c.loop-k.rows.items in
    let e = c.loop-k.current in
    let v = (settled_job table e c.loop-k.time).1 in
    let none : 0 ≡ c.loop-k.k = omega (arith, c.loop-k-test.false) in
    let is_job = (walkable (goal.at.returns c).After-len-count).jobs c.loop-k.k e c.loop-k.time c.loop-k.invariant.0 in
    c.settle-2.ensures
    ∙ sym (overlaid-none table (set rows e.job v) (length-set rows e.job v ∙ c.loop-k.invariant.1))
    ∙ sym (overlaid-settled_job table rows e.job v [] is_job c.loop-k.invariant.1 refl)
    ∙ ap (λ n. overlaid table rows (specs.walk_back table c.args.graph.now n e c.loop-k.time)) none
    ∙ c.loop-k.invariant.2
