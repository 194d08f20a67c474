use Rattle.std.proofs.Common.{◌≡◌, ◌∙◌, ◌<◌, ◌++◌, ◌∷◌, [], List, Some, ap, arith, inl, inr, length, length-append, subst, sym}
use Rattle.std.specs.Prelude.{IsSome, None, slice_get, slice_index_or}
use Rattle.sag_time.specs.Interval.{Interval}
use Rattle.sag_graph.specs.Graph.{AbstractionGraph, graph_of}
use Rattle.gap_trials.proofs.ListFacts.{pushed-item}
use Rattle.gap_trials.proofs.TakenTrials.{has_span, span_count}
use Rattle.gap_trials.proofs.comparison.spans_of.Goals as goal

pub span-requires : goal.span-requires
span-requires c =
    let table = c.args.table.now in
    let long : length c.args.graph.now.spans ≡ length table.jobs = ap (λ (g : AbstractionGraph). length g.spans) c.requires.graph ∙ span_count table c.args.cores in
    omega (arith, c.loop-j-test.true, c.len-count.ensures.count, long)

pub unwrap-requires : goal.unwrap-requires
unwrap-requires c =
    let table = c.args.table.now in
    let j = c.loop-j.j in
    let below : j < length table.jobs = omega (arith, c.loop-j-test.true, c.len-count.ensures.count) in
    let is : c.span.result ≡ slice_index_or (graph_of table c.args.cores).spans j None =
    c.span.ensures.span ∙ ap (λ (g : AbstractionGraph). slice_index_or g.spans j None) c.requires.graph in
    subst IsSome (sym is) (has_span c.each_job_has_edge.ensures table c.args.cores j c.len-count.ensures.table c.requires.some_core below)

pub loop-j-preserved : goal.loop-j-preserved
loop-j-preserved c =
    let spans = c.loop-j.spans.items in
    let graph = c.args.graph.now in
    let new = c.unwrap.result in
    let items : c.push.new.self.items ≡ spans ++ new ∷ [] = c.in_ok-push.ensures.items in
    record {
      count = omega (arith, ap length items, length-append spans (new ∷ []), c.loop-j.invariant.count);
      each = λ j span at.
          let there : slice_get (spans ++ new ∷ []) j ≡ Some span = sym (ap (λ (xs : List Interval). slice_get xs j) items) ∙ at in
          elim (pushed-item spans new j span there) [
            | inl before ↦ c.loop-j.invariant.each j span before
            | inr last ↦
                let number : j ≡ c.loop-j.j = last.0 ∙ c.loop-j.invariant.count in
                ap (λ n. slice_index_or graph.spans n None) number ∙ sym c.span.ensures.span ∙ c.unwrap.ensures ∙ ap (λ (s : Interval). Some s) last.1
          ];
    }

pub returns : goal.returns
returns c =
    let table = c.args.table.now in
    let graph = graph_of table c.args.cores in
    record {
      one_each = omega (arith, c.loop-j.invariant.count, c.loop-j-test.false, c.loop-j.auto.j-end, c.len-count.ensures.count);
      each = λ j span at. sym (ap (λ (g : AbstractionGraph). slice_index_or g.spans j None) c.requires.graph) ∙ c.loop-j.invariant.each j span at;
    }
