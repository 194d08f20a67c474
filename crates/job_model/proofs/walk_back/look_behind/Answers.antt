use Rattle.std.proofs.Common.{◌≡◌, arith, length}
use Rattle.job_model.proofs.WalkBack.{before_in_range, edge-before}
use Rattle.job_model.proofs.walk_back.look_behind.Goals as goal

pub bounds : goal.bounds
bounds c =
    let edge = edge-before c.args.edges.now c.preds-preds.result.now c.args.job c.loop-place.place c.index-preds-place.result c.preds-preds.ensures (omega arith) c.index-preds-place.is in
    let before = before_in_range c.args.edges.now (length c.args.marks.now) c.index-preds-place.result c.args.job c.requires.in_range edge in
    omega (arith, before, c.from.ensures, c.before-in-loop-place.view_is)

pub returns-in-Unseen : goal.returns-in-Unseen
returns-in-Unseen c =
    let edge = edge-before c.args.edges.now c.preds-preds.result.now c.args.job c.loop-place.place c.index-preds-place.result c.preds-preds.ensures (omega arith) c.index-preds-place.is in
    let from : c.from.result ≡ c.index-preds-place.result = cc in
    (c.loop-place.invariant, edge, rw from at c.in-Unseen.is)

pub returns-in-OnPath : goal.returns-in-OnPath
returns-in-OnPath c =
    let edge = edge-before c.args.edges.now c.preds-preds.result.now c.args.job c.loop-place.place c.index-preds-place.result c.preds-preds.ensures (omega arith) c.index-preds-place.is in
    let from : c.from.result ≡ c.index-preds-place.result = cc in
    (c.index-preds-place.result, edge, rw from at c.in-OnPath.is)
