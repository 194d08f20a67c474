use Rattle.std.proofs.Common.{sym, subst}
use Rattle.std.specs.Prelude.{IsSome}
use Rattle.graph_check.specs.Comings.{HeldProgress, edge_offer}
use Rattle.graph_check.specs.Shown.{held_progress}
use Rattle.graph_check.proofs.LineChecks.{edge-offer-at}
use Rattle.graph_check.proofs.progress.Progress.pass_edge.Goals as goal

pub pass-passed-requires-clause-left : goal.pass-passed-requires-clause-left
pass-passed-requires-clause-left c =
    subst IsSome (edge-offer-at (held_progress c.self.inside)) (subst (λ (h : HeldProgress). IsSome (edge_offer h)) (sym c.self.view_is) c.requires.left)
