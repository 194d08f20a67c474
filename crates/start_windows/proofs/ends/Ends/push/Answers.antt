use Rattle.std.proofs.Common.{◌<◌, ◌≤◌, ℕ, List, IsTrue, length, arith, ap, sym, ◌∙◌}
use Rattle.std.specs.Prelude.{vec_capacity}
use Rattle.std.proofs.lemmas.List.{length_push}
use Rattle.sag_time.specs.Interval.{Interval}
use Rattle.start_windows.specs.Ends.{HeldEnds, is_above}
use Rattle.start_windows.proofs.EndLists.{IsEnds-push}
use Rattle.start_windows.proofs.ends.Ends.push.Goals as goal

pub invariant_of-self-2 : goal.invariant_of-self-2
invariant_of-self-2 c =
    let held : HeldEnds = record { items = c.self.inside.items.items; room = c.self.inside.room } in
    let above : IsTrue (is_above c.args.job held.items) = ap (λ (l : List (ℕ × Interval)). is_above c.args.job l) (sym c.deref.ensures.value) ∙ sym c.comes_last.ensures ∙ c.if-not-comes_last.false in
    let order : c.args.span.lo ≤ c.args.span.hi = omega arith in
    let count = ap length c.in_ok-push.ensures.items ∙ length_push held.items (c.args.job, c.args.span) in
    let less : length held.items < c.max-self-inside.result = omega arith in
    let fits : c.max-self-inside.result ≤ vec_capacity c.push.new.self = omega arith in
    (rw c.in_ok-push.ensures.items (IsEnds-push held c.args.job c.max-self-inside.result c.args.span c.self.invariant.0 above order less c.max-self-inside.type_inv), fits)
