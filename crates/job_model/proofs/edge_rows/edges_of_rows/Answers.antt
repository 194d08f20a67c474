use Rattle.std.proofs.Common.{◌≡◌, ◌∙◌, sym, subst, true, false, List, ℕ, arith}
use Rattle.job_model.specs.Cycles.{HoldsCycle}
use Rattle.job_model.specs.EdgeFaults.{edges_of}
use Rattle.job_model.proofs.EdgeLemmas.{HoldsCycle-edges, edges-joined}
use Rattle.job_model.proofs.edge_rows.edges_of_rows.Goals as goal
use Rattle.job_model.proofs.edge_rows.edges_of_rows.Goals.{then-cyclic+in_ok-check_rows, else-cyclic}

pub of-requires : goal.of-requires
of-requires c = rw c.in-Ok.ensures (edges-joined c.args.jobs c.args.rows.now c.requires)

pub hold_cycle-requires : goal.hold_cycle-requires
hold_cycle-requires c = rw (c.in-Ok-of.ensures, c.in-Ok.ensures) (edges-joined c.args.jobs c.args.rows.now c.requires)

pub returns-clause-kept : goal.returns-clause-kept
returns-clause-kept c =
    let rows = c.args.rows.now in
    let edges = c.in-Ok-of.edges in
    let is : edges ≡ edges_of rows = c.in-Ok-of.ensures ∙ c.in-Ok.ensures in
    elim c.if-cyclic.branch [
      | then-cyclic+in_ok-check_rows w ↦ w.in_ok-check_rows.ensures.kept
      | else-cyclic w ↦ record {
        few = omega arith;
        no_cycle = λ (cycle : HoldsCycle rows).
            let found : HoldsCycle edges = subst HoldsCycle (sym is) (HoldsCycle-edges rows cycle) in
            let cyclic : c.in-Ok-hold_cycle.cyclic ≡ true = c.in-Ok-hold_cycle.ensures.1 found in
            let not_cyclic : c.in-Ok-hold_cycle.cyclic ≡ false = w.if-cyclic.false in
            cc;
      }
    ]
