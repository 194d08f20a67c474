use Rattle.std.proofs.Common.{ap, ◌∙◌, subst, sym}
use Rattle.job_sets.specs.Subset.{Subset}
use Rattle.start_windows.specs.Eligible.{IsFront}
use Rattle.graph_check.specs.Comings.{HeldProgress}
use Rattle.graph_check.proofs.StateChecks.{child-found, child-front, child-none, child-size, no-child, origin-candidate, origin-state}
use Rattle.graph_check.proofs.progress.Progress.child_state.Goals as goal

pub returns-in_default-clause-clause : goal.returns-in_default-clause-clause
returns-in_default-clause-clause c =
    let h = c.args.self.now in
    no-child h.table h.cores h.progress.before c.args.parent c.args.job c.args.pairs.now c.args.ends.now c.args.last.now c.in_default.ensures.none

pub child_of_line-requires-clause-parent : goal.child_of_line-requires-clause-parent
child_of_line-requires-clause-parent c =
    let table = c.table-table.ensures ∙ ap (λ (h : HeldProgress). h.table) c.self.view_is in
    let cores = c.cores-cores.ensures.cores ∙ ap (λ (h : HeldProgress). h.cores) c.self.view_is in
    origin-state c.args.self.now c.table-table.result.now c.cores-cores.result table cores c.args.parent c.args.job c.args.pairs.now c.args.ends.now c.args.last.now c.in-Some.origin.0.now c.in-Some.origin.1 c.in-Some.ensures.some

pub child_of_line-requires-clause-job : goal.child_of_line-requires-clause-job
child_of_line-requires-clause-job c =
    let table = c.table-table.ensures ∙ ap (λ (h : HeldProgress). h.table) c.self.view_is in
    let cores = c.cores-cores.ensures.cores ∙ ap (λ (h : HeldProgress). h.cores) c.self.view_is in
    origin-candidate c.args.self.now c.table-table.result.now c.cores-cores.result table cores c.args.parent c.args.job c.args.pairs.now c.args.ends.now c.args.last.now c.in-Some.origin.0.now c.in-Some.origin.1 c.in-Some.ensures.some

pub returns-in_default-found-clause-clause : goal.returns-in_default-found-clause-clause
returns-in_default-found-clause-clause c =
    let table = c.table-table.ensures ∙ ap (λ (h : HeldProgress). h.table) c.self.view_is in
    let cores = c.cores-cores.ensures.cores ∙ ap (λ (h : HeldProgress). h.cores) c.self.view_is in
    child-none c.args.self.now c.table-table.result.now c.cores-cores.result table cores c.args.parent c.args.job c.args.pairs.now c.args.ends.now c.args.last.now c.in-Some.origin.0.now c.in-Some.origin.1 c.in-Some.ensures.some
    c.in-Ok.found c.in_default-found.is c.in-Ok.ensures

pub returns-clause-state : goal.returns-clause-state
returns-clause-state c =
    let table = c.table-table.ensures ∙ ap (λ (h : HeldProgress). h.table) c.self.view_is in
    let cores = c.cores-cores.ensures.cores ∙ ap (λ (h : HeldProgress). h.cores) c.self.view_is in
    (child-found c.args.self.now c.table-table.result.now c.cores-cores.result table cores c.args.parent c.args.job c.args.pairs.now c.args.ends.now c.args.last.now c.in-Some.origin.0.now c.in-Some.origin.1 c.in-Some.ensures.some
    c.in-Ok.found c.in-Some-found.state c.in-Some-found.is c.in-Ok.ensures).is_state

pub returns-clause-parent : goal.returns-clause-parent
returns-clause-parent c =
    let table = c.table-table.ensures ∙ ap (λ (h : HeldProgress). h.table) c.self.view_is in
    let cores = c.cores-cores.ensures.cores ∙ ap (λ (h : HeldProgress). h.cores) c.self.view_is in
    (child-found c.args.self.now c.table-table.result.now c.cores-cores.result table cores c.args.parent c.args.job c.args.pairs.now c.args.ends.now c.args.last.now c.in-Some.origin.0.now c.in-Some.origin.1 c.in-Some.ensures.some
    c.in-Ok.found c.in-Some-found.state c.in-Some-found.is c.in-Ok.ensures).candidate

pub front_from-front-requires-clause-size : goal.front_from-front-requires-clause-size
front_from-front-requires-clause-size c =
    let table = c.table-table.ensures ∙ ap (λ (h : HeldProgress). h.table) c.self.view_is in
    let cores = c.cores-cores.ensures.cores ∙ ap (λ (h : HeldProgress). h.cores) c.self.view_is in
    let child = child-found c.args.self.now c.table-table.result.now c.cores-cores.result table cores c.args.parent c.args.job c.args.pairs.now c.args.ends.now c.args.last.now c.in-Some.origin.0.now c.in-Some.origin.1 c.in-Some.ensures.some
    c.in-Ok.found c.in-Some-found.state c.in-Some-found.is c.in-Ok.ensures in
    ap (λ (s : Subset). s.size) c.set.ensures ∙ child-size c.args.self.now c.table-table.result.now c.cores-cores.result table cores c.args.parent c.args.job c.args.pairs.now c.args.ends.now c.args.last.now c.in-Some.origin.0.now c.in-Some.origin.1 c.in-Some.ensures.some c.in-Some-found.state child

pub front_from-front-requires-clause-from : goal.front_from-front-requires-clause-from
front_from-front-requires-clause-from c =
    let table = c.table-table.ensures ∙ ap (λ (h : HeldProgress). h.table) c.self.view_is in
    let cores = c.cores-cores.ensures.cores ∙ ap (λ (h : HeldProgress). h.cores) c.self.view_is in
    let child = child-found c.args.self.now c.table-table.result.now c.cores-cores.result table cores c.args.parent c.args.job c.args.pairs.now c.args.ends.now c.args.last.now c.in-Some.origin.0.now c.in-Some.origin.1 c.in-Some.ensures.some
    c.in-Ok.found c.in-Some-found.state c.in-Some-found.is c.in-Ok.ensures in
    subst (λ (s : Subset). IsFront c.table-table.result.now s.members c.in-Some.origin.0.now.front) (sym c.set.ensures)
    (child-front c.args.self.now c.table-table.result.now c.cores-cores.result table cores c.args.parent c.args.job c.args.pairs.now c.args.ends.now c.args.last.now c.in-Some.origin.0.now c.in-Some.origin.1 c.in-Some.ensures.some c.fronts_are_handed_down.ensures c.in-Some-found.state child)

pub returns-clause-fit : goal.returns-clause-fit
returns-clause-fit c =
    let table = c.table-table.ensures ∙ ap (λ (h : HeldProgress). h.table) c.self.view_is in
    let cores = c.cores-cores.ensures.cores ∙ ap (λ (h : HeldProgress). h.cores) c.self.view_is in
    let child = child-found c.args.self.now c.table-table.result.now c.cores-cores.result table cores c.args.parent c.args.job c.args.pairs.now c.args.ends.now c.args.last.now c.in-Some.origin.0.now c.in-Some.origin.1 c.in-Some.ensures.some
    c.in-Ok.found c.in-Some-found.state c.in-Some-found.is c.in-Ok.ensures in
    let front = subst (λ (s : Subset). IsFront c.table-table.result.now s.members c.front_from-front.result) c.set.ensures c.front_from-front.ensures.is_front in
    record { fit = child.fit; front = subst (λ t. IsFront t c.in-Some-found.state.state.set.members c.front_from-front.result) table front }

pub returns-clause-passes : goal.returns-clause-passes
returns-clause-passes c =
    let table = c.table-table.ensures ∙ ap (λ (h : HeldProgress). h.table) c.self.view_is in
    let cores = c.cores-cores.ensures.cores ∙ ap (λ (h : HeldProgress). h.cores) c.self.view_is in
    (child-found c.args.self.now c.table-table.result.now c.cores-cores.result table cores c.args.parent c.args.job c.args.pairs.now c.args.ends.now c.args.last.now c.in-Some.origin.0.now c.in-Some.origin.1 c.in-Some.ensures.some
    c.in-Ok.found c.in-Some-found.state c.in-Some-found.is c.in-Ok.ensures).passes
