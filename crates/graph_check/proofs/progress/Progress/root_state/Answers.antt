use Rattle.std.proofs.Common.{◌≤◌, [], ap, sym, subst, ◌∙◌}
use Rattle.job_model.specs.Table.{Table}
use Rattle.sag_step.specs.Shape.{IsState}
use Rattle.sag_step.specs.State.{HeldState, root}
use Rattle.graph_check.specs.Comings.{HeldProgress}
use Rattle.graph_check.proofs.RootChecks.{is-root, root-k5}
use Rattle.graph_check.proofs.StateChecks.{finds-same}
use Rattle.graph_check.proofs.progress.Progress.root_state.Goals as goal

pub returns-in_default-found-clause-clause : goal.returns-in_default-found-clause-clause
returns-in_default-found-clause-clause c =
    let old = c.args.self.now in
    root-k5 old.table old.cores old.progress c.args.pairs.now (rw (← c.in_default-found.is) (finds-same old.table c.table-table.result.now old.cores c.cores-cores.result c.in-Ok.set.members _ c.args.pairs.now [] [] c.in-Ok-state_of_line.found
    (c.table-table.ensures ∙ ap (λ (h : HeldProgress). h.table) c.self.view_is) (c.cores-cores.ensures.cores ∙ ap (λ (h : HeldProgress). h.cores) c.self.view_is)
    c.in-Ok.ensures.empty.1 c.in-Ok-state_of_line.ensures))

pub covers-requires : goal.covers-requires
covers-requires c =
    let old = c.args.self.now in
    let found = is-root old.table old.cores old.progress c.args.pairs.now c.in-Some.state (rw (← c.in-Some.is) (finds-same old.table c.table-table.result.now old.cores c.cores-cores.result c.in-Ok.set.members _ c.args.pairs.now [] [] c.in-Ok-state_of_line.found
    (c.table-table.ensures ∙ ap (λ (h : HeldProgress). h.table) c.self.view_is) (c.cores-cores.ensures.cores ∙ ap (λ (h : HeldProgress). h.cores) c.self.view_is)
    c.in-Ok.ensures.empty.1 c.in-Ok-state_of_line.ensures)) in
    let some : 1 ≤ old.cores = subst (λ n. 1 ≤ n) (ap (λ (h : HeldProgress). h.cores) c.self.view_is) c.cores-cores.ensures.some in
    let root_is = (c.root_is_shaped.ensures old.table old.cores some).is_state in
    c.shaped_are_comparable.ensures old.table old.cores c.in-Some.state.state c.in-Ok-root.root.state found.fit.is_state (subst (IsState old.table old.cores) (sym (ap (λ (h : HeldState). h.state) c.in-Ok-root.ensures ∙ ap (λ (t : Table). root t c.cores-cores.result) (c.table-table.ensures ∙ ap (λ (h : HeldProgress). h.table) c.self.view_is)
    ∙ ap (λ n. root old.table n) (c.cores-cores.ensures.cores ∙ ap (λ (h : HeldProgress). h.cores) c.self.view_is))) root_is)

pub returns-then-not-covers-clause-clause : goal.returns-then-not-covers-clause-clause
returns-then-not-covers-clause-clause c =
    let old = c.args.self.now in
    (is-root old.table old.cores old.progress c.args.pairs.now c.in-Some.state (rw (← c.in-Some.is) (finds-same old.table c.table-table.result.now old.cores c.cores-cores.result c.in-Ok.set.members _ c.args.pairs.now [] [] c.in-Ok-state_of_line.found
    (c.table-table.ensures ∙ ap (λ (h : HeldProgress). h.table) c.self.view_is) (c.cores-cores.ensures.cores ∙ ap (λ (h : HeldProgress). h.cores) c.self.view_is)
    c.in-Ok.ensures.empty.1 c.in-Ok-state_of_line.ensures))).narrow c.in-Ok-root.root.state (ap (λ (h : HeldState). h.state) c.in-Ok-root.ensures ∙ ap (λ (t : Table). root t c.cores-cores.result) (c.table-table.ensures ∙ ap (λ (h : HeldProgress). h.table) c.self.view_is)
    ∙ ap (λ n. root old.table n) (c.cores-cores.ensures.cores ∙ ap (λ (h : HeldProgress). h.cores) c.self.view_is)) (sym c.covers.ensures ∙ c.if-not-covers.true)

pub returns-clause-state : goal.returns-clause-state
returns-clause-state c =
    let old = c.args.self.now in
    (is-root old.table old.cores old.progress c.args.pairs.now c.in-Some.state (rw (← c.in-Some.is) (finds-same old.table c.table-table.result.now old.cores c.cores-cores.result c.in-Ok.set.members _ c.args.pairs.now [] [] c.in-Ok-state_of_line.found
    (c.table-table.ensures ∙ ap (λ (h : HeldProgress). h.table) c.self.view_is) (c.cores-cores.ensures.cores ∙ ap (λ (h : HeldProgress). h.cores) c.self.view_is)
    c.in-Ok.ensures.empty.1 c.in-Ok-state_of_line.ensures))).is_state

pub returns-clause-fit : goal.returns-clause-fit
returns-clause-fit c =
    let old = c.args.self.now in
    let fit = (is-root old.table old.cores old.progress c.args.pairs.now c.in-Some.state (rw (← c.in-Some.is) (finds-same old.table c.table-table.result.now old.cores c.cores-cores.result c.in-Ok.set.members _ c.args.pairs.now [] [] c.in-Ok-state_of_line.found
    (c.table-table.ensures ∙ ap (λ (h : HeldProgress). h.table) c.self.view_is) (c.cores-cores.ensures.cores ∙ ap (λ (h : HeldProgress). h.cores) c.self.view_is)
    c.in-Ok.ensures.empty.1 c.in-Ok-state_of_line.ensures))).fit in
    record { fit = fit; front = c.fronts_are_handed_down.ensures.start old.table c.in-Some.state.state.set.members }

pub returns-clause-passes : goal.returns-clause-passes
returns-clause-passes c =
    let old = c.args.self.now in
    (is-root old.table old.cores old.progress c.args.pairs.now c.in-Some.state (rw (← c.in-Some.is) (finds-same old.table c.table-table.result.now old.cores c.cores-cores.result c.in-Ok.set.members _ c.args.pairs.now [] [] c.in-Ok-state_of_line.found
    (c.table-table.ensures ∙ ap (λ (h : HeldProgress). h.table) c.self.view_is) (c.cores-cores.ensures.cores ∙ ap (λ (h : HeldProgress). h.cores) c.self.view_is)
    c.in-Ok.ensures.empty.1 c.in-Ok-state_of_line.ensures))).wide c.in-Ok-root.root.state (ap (λ (h : HeldState). h.state) c.in-Ok-root.ensures ∙ ap (λ (t : Table). root t c.cores-cores.result) (c.table-table.ensures ∙ ap (λ (h : HeldProgress). h.table) c.self.view_is)
    ∙ ap (λ n. root old.table n) (c.cores-cores.ensures.cores ∙ ap (λ (h : HeldProgress). h.cores) c.self.view_is)) (sym c.covers.ensures ∙ c.if-not-covers.false)
