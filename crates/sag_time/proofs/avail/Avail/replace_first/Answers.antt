use Rattle.std.proofs.Common.{◌≡◌, length, sym, ap, ◌∙◌, arith}
use Rattle.sag_time.specs.Sorted.{is_sorted, after_start}
use Rattle.sag_time.proofs.SortedLists.{is_sorted-after_start, length-after_start}
use Rattle.sag_time.proofs.WrittenBack.{kept}
use Rattle.sag_time.proofs.avail.Avail.replace_first.Goals as goal

pub invariant_of-self : goal.invariant_of-self
invariant_of-self c =
    let own : c.self.inside.times.items ≡ c.args.self.now = c.self.view_is in
    let is : c.start_first.new.times ≡ after_start c.args.floor c.args.end c.args.self.now =
    c.start_first.ensures ∙ ap (after_start c.args.floor c.args.end) (c.deref_mut.ensures.value ∙ own) in
    let size : length c.args.self.now ≡ length c.self.inside.times.items = ap length (sym own) in
    let lent : length c.deref_mut.result.now ≡ length c.self.inside.times.items = ap length c.deref_mut.ensures.value in
    let long : length c.start_first.new.times ≡ length (after_start c.args.floor c.args.end c.args.self.now) = ap length is in
    let same : length (after_start c.args.floor c.args.end c.args.self.now) ≡ length c.args.self.now = length-after_start c.args.floor c.args.end c.args.self.now c.requires.some in
    kept c.self.inside.times.len c.start_first.new.times c.self.inside.times.items (after_start c.args.floor c.args.end c.args.self.now)
    (omega (arith, long, same, size, lent, c.deref_mut.ensures.len)) is
    (is_sorted-after_start c.args.floor c.args.end c.args.self.now (ap is_sorted (sym own) ∙ c.self.invariant.0))
    (omega (arith, same, size, c.self.invariant.1))
