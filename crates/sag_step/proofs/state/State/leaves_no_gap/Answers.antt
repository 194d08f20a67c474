use Rattle.std.proofs.Common.{◌≡◌, ◌∙◌, ◌&&◌, true, false, ap, sym}
use Rattle.std.specs.Prelude.{nat_le}
use Rattle.std.specs.Cmp.Lexicographic.{pointwise, as_long}
use Rattle.sag_step.proofs.Touching.{begins_near, touch_by_ends}
use Rattle.sag_step.proofs.state.State.leaves_no_gap.Goals as goal

pub returns-then-begins_near : goal.returns-then-begins_near
returns-then-begins_near c =
    let a = c.args.self.now.state in
    let b = c.args.other.now.state in
    let first : pointwise begins_near a.low b.high ≡ true =
    (λ k. pointwise begins_near (sym c.self.view_is k).state.low (sym c.other.view_is k).state.high) ∙ sym c.begins_near.ensures ∙ c.if-begins_near.true in
    let second : c.begins_near-then-begins_near.result ≡ pointwise begins_near b.low a.high =
    c.begins_near-then-begins_near.ensures ∙ (λ k. pointwise begins_near (c.other.view_is k).state.low (c.self.view_is k).state.high) in
    second
    ∙ ap (λ t. t && pointwise begins_near b.low a.high) (sym first)
    ∙ sym (touch_by_ends a.low a.high b.low b.high (as_long nat_le a.low a.high c.requires.first_in_order) c.requires.one_count (as_long nat_le b.low b.high c.requires.second_in_order))

pub returns-else-begins_near : goal.returns-else-begins_near
returns-else-begins_near c =
    let a = c.args.self.now.state in
    let b = c.args.other.now.state in
    let first : pointwise begins_near a.low b.high ≡ false =
    (λ k. pointwise begins_near (sym c.self.view_is k).state.low (sym c.other.view_is k).state.high) ∙ sym c.begins_near.ensures ∙ c.if-begins_near.false in
    c.if-begins_near.false
    ∙ ap (λ t. t && pointwise begins_near b.low a.high) (sym first)
    ∙ sym (touch_by_ends a.low a.high b.low b.high (as_long nat_le a.low a.high c.requires.first_in_order) c.requires.one_count (as_long nat_le b.low b.high c.requires.second_in_order))
