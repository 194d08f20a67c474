use Rattle.std.proofs.Common.{◌≡◌, ◌∙◌, ◌<◌, ap, arith, get_or, length}
use Rattle.std.specs.Prelude.{None}
use Rattle.std.proofs.lemmas.List.{get_or_read}
use Rattle.sag_step.specs.State.{states_of}
use Rattle.graph_builder.specs.Standing.{Standing}
use Rattle.graph_builder.proofs.StandLemmas.{stand-spans}
use Rattle.graph_builder.proofs.level_builder.LevelBuilder.span.Goals as goal

pub index-requires : goal.index-requires
index-requires c =
    let b = c.self.inside in
    let s : Standing = record { table = b.table.now; cores = b.cores; budget = b.budget; level = b.level; states = states_of b.states.items; edges = b.edges.items; spans = b.spans.items; state_total = b.state_total; edge_total = b.edge_total } in
    let from : c.from.result ≡ c.args.job = cc in
    let jobs : length b.table.now.jobs ≡ length c.args.self.now.table.jobs = ap (λ (t : Standing). length t.table.jobs) c.self.view_is in
    omega (arith, c.requires, from, jobs, stand-spans s c.self.invariant.0, b.spans.ok.0)

pub returns : goal.returns
returns c =
    let b = c.self.inside in
    let s : Standing = record { table = b.table.now; cores = b.cores; budget = b.budget; level = b.level; states = states_of b.states.items; edges = b.edges.items; spans = b.spans.items; state_total = b.state_total; edge_total = b.edge_total } in
    let from : c.from.result ≡ c.args.job = cc in
    let jobs : length b.table.now.jobs ≡ length c.args.self.now.table.jobs = ap (λ (t : Standing). length t.table.jobs) c.self.view_is in
    let below : c.from.result < length b.spans.items = omega (arith, c.requires, from, jobs, stand-spans s c.self.invariant.0) in
    get_or_read b.spans.items _ _ below c.index.ensures None
    ∙ ap (λ n. get_or b.spans.items n None) from
    ∙ ap (λ (t : Standing). get_or t.spans c.args.job None) c.self.view_is
