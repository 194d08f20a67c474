use Rattle.std.proofs.Common.{◌≡◌, ap, replicate, None, length, ◌∙◌, arith}
use Rattle.std.proofs.lemmas.List.{length_push}
use Rattle.graph_check.proofs.JobLists.{nones-more}
use Rattle.graph_check.proofs.hulls.no_hulls.Goals as goal

pub loop-hulls-preserved : goal.loop-hulls-preserved
loop-hulls-preserved c =
    let items = c.loop-hulls.hulls.items in
    let count = ap length c.in_ok-push.ensures.items ∙ length_push items None in
    record {
      none = rw c.in_ok-push.ensures.items (nones-more items c.loop-hulls.invariant.none);
      few = omega (arith, count, c.loop-hulls-test.true, c.loop-hulls.hulls.ok.0);
    }

pub returns : goal.returns
returns c =
    let count : length c.loop-hulls.hulls.items ≡ c.args.count = omega (arith, c.loop-hulls.hulls.ok.0, c.loop-hulls-test.false, c.loop-hulls.invariant.few) in
    c.loop-hulls.invariant.none ∙ ap (λ n. replicate n None) count
