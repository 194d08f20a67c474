use Rattle.std.proofs.Common.{◌≡◌, ◌++◌, ◌∷◌, [], ◌<◌, length, take, ap, sym, ◌∙◌, arith}
use Rattle.std.specs.Prelude.{None}
use Rattle.std.proofs.lemmas.List.{take_all, take_more}
use Rattle.job_model.specs.Table.{Table}
use Rattle.graph_builder.specs.Standing.{Standing, IsStanding}
use Rattle.graph_memory.proofs.GraphLists.{spans-count}
use Rattle.graph_memory.proofs.building.spans_of.Goals as goal

spans-long : (b : Standing) (table : Table) → IsStanding b → b.table ≡ table → length b.spans ≡ length table.jobs
spans-long b table stands same = ap (λ (s : Standing). length s.spans) stands.of_graph ∙ spans-count b.table b.cores b.level ∙ ap (λ (t : Table). length t.jobs) same

pub loop-j-preserved : goal.loop-j-preserved
loop-j-preserved c =
    let b = c.args.builder.now in
    let below : c.loop-j.j < length b.spans = omega (arith, c.loop-j-test.true, c.len-j-end.ensures.count, spans-long b c.args.table.now c.level-level.ensures.standing c.requires) in
    c.in_ok-push.ensures.items ∙ ap (λ xs. xs ++ c.span.result ∷ []) c.loop-j.invariant ∙ ap (λ s. take c.loop-j.j b.spans ++ s ∷ []) c.span.ensures
    ∙ sym (take_more b.spans c.loop-j.j None below)

pub returns : goal.returns
returns c =
    let b = c.args.builder.now in
    c.loop-j.invariant
    ∙ take_all c.loop-j.j b.spans (omega (arith, c.loop-j-test.false, c.len-j-end.ensures.count, spans-long b c.args.table.now c.level-level.ensures.standing c.requires))
