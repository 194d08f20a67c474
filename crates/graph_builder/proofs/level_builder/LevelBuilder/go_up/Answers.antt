use Rattle.std.proofs.Common.{◌≡◌, ◌+◌, arith, length, subst, sym}
use Rattle.sag_step.specs.State.{states_of}
use Rattle.graph_builder.specs.Fit.{AreReady, most_at}
use Rattle.graph_builder.specs.Standing.{Standing}
use Rattle.graph_builder.proofs.StandLemmas.{IsNextDraft, draft-edges, draft-ready, spans-count, went-is, went-stands}
use Rattle.graph_builder.proofs.WritableLemmas.{are_timed}
use Rattle.graph_builder.proofs.level_builder.LevelBuilder.go_up.Goals as goal

pub widen-requires-clause-edges : goal.widen-requires-clause-edges
widen-requires-clause-edges c =
    let b = c.self.inside in
    let s : Standing = record { table = b.table.now; cores = b.cores; budget = b.budget; level = b.level; states = states_of b.states.items; edges = b.edges.items; spans = b.spans.items; state_total = b.state_total; edge_total = b.edge_total } in
    let given : IsNextDraft c.args.self.now c.args.draft = record { level = c.requires.level; made = c.requires.made; kept = c.requires.draft; fits = c.requires.fits; within = c.requires.within } in
    rw c.deref.ensures.value (draft-edges s c.args.self.now c.self.view_is c.self.invariant.0 c.args.draft given)

pub widen-requires-clause-count : goal.widen-requires-clause-count
widen-requires-clause-count c =
    let b = c.self.inside in
    let s : Standing = record { table = b.table.now; cores = b.cores; budget = b.budget; level = b.level; states = states_of b.states.items; edges = b.edges.items; spans = b.spans.items; state_total = b.state_total; edge_total = b.edge_total } in
    let given : IsNextDraft c.args.self.now c.args.draft = record { level = c.requires.level; made = c.requires.made; kept = c.requires.draft; fits = c.requires.fits; within = c.requires.within } in
    spans-count s c.args.self.now c.self.view_is c.self.invariant.0 c.args.draft given

pub returns-clause-standing : goal.returns-clause-standing
returns-clause-standing c =
    let states : states_of c.replace.new.dest.items ≡ c.args.draft.index = rw c.replace.ensures.after c.into_states.ensures in
    let b = c.self.inside in
    let s : Standing = record { table = b.table.now; cores = b.cores; budget = b.budget; level = b.level; states = states_of b.states.items; edges = b.edges.items; spans = b.spans.items; state_total = b.state_total; edge_total = b.edge_total } in
    let given : IsNextDraft c.args.self.now c.args.draft = record { level = c.requires.level; made = c.requires.made; kept = c.requires.draft; fits = c.requires.fits; within = c.requires.within } in
    let count : c.len-2.result ≡ length c.args.draft.edges.items = omega (arith, c.len-2.ensures, c.args.draft.edges.ok.0) in
    went-stands s c.args.self.now c.self.view_is c.self.invariant.0 c.args.draft given (states_of c.replace.new.dest.items) states c.len.result c.len-2.result
    c.len.ensures count c.widen.new.spans.items (λ before is. rw c.deref.ensures.value at (c.widen.ensures.widened before is))

pub invariant_of-self : goal.invariant_of-self
invariant_of-self c =
    let states : states_of c.replace.new.dest.items ≡ c.args.draft.index = rw c.replace.ensures.after c.into_states.ensures in
    let b = c.self.inside in
    let s : Standing = record { table = b.table.now; cores = b.cores; budget = b.budget; level = b.level; states = states_of b.states.items; edges = b.edges.items; spans = b.spans.items; state_total = b.state_total; edge_total = b.edge_total } in
    let given : IsNextDraft c.args.self.now c.args.draft = record { level = c.requires.level; made = c.requires.made; kept = c.requires.draft; fits = c.requires.fits; within = c.requires.within } in
    let count : c.len-2.result ≡ length c.args.draft.edges.items = omega (arith, c.len-2.ensures, c.args.draft.edges.ok.0) in (
      went-stands s c.args.self.now c.self.view_is c.self.invariant.0 c.args.draft given (states_of c.replace.new.dest.items) states c.len.result c.len-2.result
          c.len.ensures count c.widen.new.spans.items (λ before is. rw c.deref.ensures.value at (c.widen.ensures.widened before is)),
      subst (λ states. AreReady b.table.now b.cores (most_at (b.level + 1)) states c.args.draft.fronts.items) (sym states)
          (draft-ready s c.args.self.now c.self.view_is c.self.invariant.0 c.args.draft given),
      c.self.invariant.2,
      c.self.invariant.3,
      are_timed b.table.now 4611686018427387903 c.args.draft.edges.items (omega arith) (draft-edges s c.args.self.now c.self.view_is c.self.invariant.0 c.args.draft given),
      c.widen.ensures.fit,
    )

pub returns-clause-up : goal.returns-clause-up
returns-clause-up c =
    let states : states_of c.replace.new.dest.items ≡ c.args.draft.index = rw c.replace.ensures.after c.into_states.ensures in
    let b = c.self.inside in
    let s : Standing = record { table = b.table.now; cores = b.cores; budget = b.budget; level = b.level; states = states_of b.states.items; edges = b.edges.items; spans = b.spans.items; state_total = b.state_total; edge_total = b.edge_total } in
    let given : IsNextDraft c.args.self.now c.args.draft = record { level = c.requires.level; made = c.requires.made; kept = c.requires.draft; fits = c.requires.fits; within = c.requires.within } in
    let count : c.len-2.result ≡ length c.args.draft.edges.items = omega (arith, c.len-2.ensures, c.args.draft.edges.ok.0) in
    went-is s c.args.self.now c.self.view_is c.self.invariant.0 c.args.draft given (states_of c.replace.new.dest.items) states c.len.result c.len-2.result
    c.len.ensures count c.widen.new.spans.items (λ before is. rw c.deref.ensures.value at (c.widen.ensures.widened before is))
