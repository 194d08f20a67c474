use Rattle.std.proofs.Common.{◌≡◌, ap, arith, length, subst}
use Rattle.std.proofs.lemmas.List.{length-map}
use Rattle.std.proofs.lemmas.Result.{err_from_is_err_and}
use Rattle.sag_step.specs.State.{HeldState}
use Rattle.sag_step.specs.Group.{offers}
use Rattle.sag_step.specs.State.{states_of}
use Rattle.graph_builder.specs.Filling.{IsOver, before_of, first_over, no_level}
use Rattle.graph_builder.specs.Standing.{IsSpentAfter, Standing, purse_of}
use Rattle.graph_builder.proofs.StandLemmas.{spent-after, stand-few}
use Rattle.graph_builder.proofs.level_builder.LevelBuilder.next_level.Goals as goal

pub fill-requires-clause-few : goal.fill-requires-clause-few
fill-requires-clause-few c =
    let b = c.self.inside in
    let s : Standing = record { table = b.table.now; cores = b.cores; budget = b.budget; level = b.level; states = states_of b.states.items; edges = b.edges.items; spans = b.spans.items; state_total = b.state_total; edge_total = b.edge_total } in
    let few = stand-few s c.self.invariant.0 in
    let count : length c.deref.result.now ≡ length b.states.items = ap length c.deref.ensures.value in
    omega (arith, few, count, length-map b.states.items (λ (h : HeldState). h.state), c.self.invariant.0.few_states, c.self.invariant.3)

pub returns-in_err-draft-clause-spent : goal.returns-in_err-draft-clause-spent
returns-in_err-draft-clause-spent c =
    let b = c.self.inside in
    let s : Standing = record { table = b.table.now; cores = b.cores; budget = b.budget; level = b.level; states = states_of b.states.items; edges = b.edges.items; spans = b.spans.items; state_total = b.state_total; edge_total = b.edge_total } in
    let p = err_from_is_err_and c.from_residual.result c.from_residual.ensures.1 in
    let x = c.in_err-draft.field-0.0 in
    let told : IsOver (first_over s.budget (before_of (purse_of s)) no_level (offers s.table s.states)) x = rw c.deref.ensures.value at c.in_err-draft.ensures.spent in
    rw (p.1, p.2) (subst (λ t. IsSpentAfter t x) c.self.view_is (spent-after s c.self.invariant.0 (omega (arith, c.if-self-len.false, c.len.ensures.count)) x told))
