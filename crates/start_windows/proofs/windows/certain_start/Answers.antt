use Rattle.std.proofs.Common.{Some, ap, sym, ◌∙◌}
use Rattle.start_windows.specs.Window.{is_candidate, latest_ready}
use Rattle.start_windows.proofs.Passing.{least-taken, least-left}
use Rattle.start_windows.proofs.windows.certain_start.Goals as goal
use Rattle.start_windows.proofs.windows.certain_start.Goals.{then-candidate, else-candidate}

pub loop-no-preserved : goal.loop-no-preserved
loop-no-preserved c =
    let test = is_candidate c.args.table.now c.args.set.now.members in
    let ready = latest_ready c.args.table.now c.args.ends.now.items in
    elim c.if-candidate.branch [
      | then-candidate w ↦
          w.least-is ∙ ap Some w.lesser.ensures
          ∙ least-taken test c.loop-no.no ready c.loop-no.least w.latest_ready.result (sym c.candidate.ensures ∙ w.if-candidate.true) c.loop-no.invariant w.latest_ready.ensures
      | else-candidate w ↦ w.least-is ∙ least-left test c.loop-no.no ready c.loop-no.least (sym c.candidate.ensures ∙ w.if-candidate.false) c.loop-no.invariant
    ]
