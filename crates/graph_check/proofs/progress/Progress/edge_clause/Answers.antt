use Rattle.std.proofs.Common.{ap, sym, subst, ◌∙◌}
use Rattle.std.specs.Prelude.{IsSome}
use Rattle.graph_check.specs.Checks.{edge_checks, first_broken}
use Rattle.graph_check.specs.Comings.{HeldProgress, edge_offer}
use Rattle.graph_check.specs.Shown.{held_progress}
use Rattle.graph_check.proofs.LineChecks.{edge-none, edge-k6, edge-k7, edge-k8, edge-k8-none, edge-left, edge-passes, walk-says}
use Rattle.graph_check.proofs.Offers.{source-at, state-at, state-past}
use Rattle.graph_check.proofs.progress.Progress.edge_clause.Goals as goal

pub returns-in_default-clause-clause : goal.returns-in_default-clause-clause
returns-in_default-clause-clause c =
    let a = c.args in
    let h = held_progress c.self.inside in
    edge-none h a.from a.job a.est a.lst a.to c.in_default.ensures.turn
    ∙ ap (λ (k : HeldProgress). first_broken (edge_checks k.progress.states (edge_offer k) a.from a.job a.est a.lst a.to)) c.self.view_is

pub returns-then-not-is_choice-clause-clause : goal.returns-then-not-is_choice-clause-clause
returns-then-not-is_choice-clause-clause c =
    let a = c.args in
    let h = held_progress c.self.inside in
    edge-k6 h a.from a.job a.est a.lst a.to c.in-Some.turn c.in-Some.ensures.turn (sym c.is_choice.ensures ∙ c.if-not-is_choice.true)
    ∙ ap (λ (k : HeldProgress). first_broken (edge_checks k.progress.states (edge_offer k) a.from a.job a.est a.lst a.to)) c.self.view_is

pub returns-then-not-has_window-clause-clause : goal.returns-then-not-has_window-clause-clause
returns-then-not-has_window-clause-clause c =
    let a = c.args in
    let h = held_progress c.self.inside in
    edge-k7 h a.from a.job a.est a.lst a.to c.in-Some.turn c.in-Some.ensures.turn (sym c.is_choice.ensures ∙ c.if-not-is_choice.false) (sym c.has_window.ensures ∙ c.if-not-has_window.true)
    ∙ ap (λ (k : HeldProgress). first_broken (edge_checks k.progress.states (edge_offer k) a.from a.job a.est a.lst a.to)) c.self.view_is

pub returns-in_default-get-clause-clause : goal.returns-in_default-get-clause-clause
returns-in_default-get-clause-clause c =
    let a = c.args in
    let h = held_progress c.self.inside in
    edge-k8-none h a.from a.job a.est a.lst a.to c.in-Some.turn c.in-Some.ensures.turn (sym c.is_choice.ensures ∙ c.if-not-is_choice.false) (sym c.has_window.ensures ∙ c.if-not-has_window.false) (state-past c.self.inside.states.items a.to (rw c.deref.ensures.value at c.in_default-get.ensures.lookup).3)
    ∙ ap (λ (k : HeldProgress). first_broken (edge_checks k.progress.states (edge_offer k) a.from a.job a.est a.lst a.to)) c.self.view_is

pub is_covered_by-requires-clause-fit : goal.is_covered_by-requires-clause-fit
is_covered_by-requires-clause-fit c =
    let a = c.args in
    let h = held_progress c.self.inside in
    let there = rw c.deref.ensures.value at c.in-Some-get.ensures.lookup in
    (source-at h.table h.cores c.self.inside.states.items a.to c.in-Some-get.entry.now c.self.invariant.0 there.3.0 there.1).fit

pub returns-then-not-is_covered_by-clause-clause : goal.returns-then-not-is_covered_by-clause-clause
returns-then-not-is_covered_by-clause-clause c =
    let a = c.args in
    let h = held_progress c.self.inside in
    let there = rw c.deref.ensures.value at c.in-Some-get.ensures.lookup in
    edge-k8 h a.from a.job a.est a.lst a.to c.in-Some.turn c.in-Some.ensures.turn (sym c.is_choice.ensures ∙ c.if-not-is_choice.false) (sym c.has_window.ensures ∙ c.if-not-has_window.false) c.in-Some-get.entry.now.state.state (state-at c.self.inside.states.items a.to c.in-Some-get.entry.now there.3.0 there.1) (walk-says h a.from a.job a.est a.lst a.to c.in-Some.turn c.in-Some.ensures.turn (sym c.is_choice.ensures ∙ c.if-not-is_choice.false) (sym c.has_window.ensures ∙ c.if-not-has_window.false) c.in-Some-get.entry.now.state.state c.is_covered_by.result c.is_covered_by.ensures.covers ∙ c.if-not-is_covered_by.true)
    ∙ ap (λ (k : HeldProgress). first_broken (edge_checks k.progress.states (edge_offer k) a.from a.job a.est a.lst a.to)) c.self.view_is

pub returns-clause-clause : goal.returns-clause-clause
returns-clause-clause c =
    let a = c.args in
    let h = held_progress c.self.inside in
    let there = rw c.deref.ensures.value at c.in-Some-get.ensures.lookup in
    edge-passes h a.from a.job a.est a.lst a.to c.in-Some.turn c.in-Some.ensures.turn (sym c.is_choice.ensures ∙ c.if-not-is_choice.false) (sym c.has_window.ensures ∙ c.if-not-has_window.false) c.in-Some-get.entry.now.state.state (state-at c.self.inside.states.items a.to c.in-Some-get.entry.now there.3.0 there.1) (walk-says h a.from a.job a.est a.lst a.to c.in-Some.turn c.in-Some.ensures.turn (sym c.is_choice.ensures ∙ c.if-not-is_choice.false) (sym c.has_window.ensures ∙ c.if-not-has_window.false) c.in-Some-get.entry.now.state.state c.is_covered_by.result c.is_covered_by.ensures.covers ∙ c.if-not-is_covered_by.false)
    ∙ ap (λ (k : HeldProgress). first_broken (edge_checks k.progress.states (edge_offer k) a.from a.job a.est a.lst a.to)) c.self.view_is

pub returns-clause-left : goal.returns-clause-left
returns-clause-left c =
    let a = c.args in
    let h = held_progress c.self.inside in
    subst (λ (k : HeldProgress). IsSome (edge_offer k)) c.self.view_is (edge-left h a.from a.job a.est a.lst a.to c.in-Some.turn c.in-Some.ensures.turn)
