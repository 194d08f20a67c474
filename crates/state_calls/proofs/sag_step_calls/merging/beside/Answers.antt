use Rattle.std.proofs.Common.{◌≡◌, ◌∙◌, sym, subst, true}
use Rattle.std.specs.Cmp.Lexicographic.{pointwise}
use Rattle.std.proofs.lemmas.Bool.{and_parts}
use Rattle.sag_time.specs.Interval.{touches}
use Rattle.sag_step.specs.Shape.{Shaped}
use Rattle.sag_step.specs.Widen.{core_intervals, same_set, states_touch}
use Rattle.state_calls.proofs.sag_step_calls.merging.beside.Goals as goal

pub returns : goal.returns
returns c =
    let a = c.args.one.now.state in
    let b = c.args.other.now.state in
    let touching : states_touch a b ≡ true = sym c.touches.ensures ∙ c.if-not-touches.false in
    let same = (and_parts (same_set a.set b.set) (pointwise touches (core_intervals a) (core_intervals b)) touching).0 in
    subst (λ s. Shaped c.args.table.now c.args.cores s) (sym c.absorb.ensures.hull) (c.hull_is_shaped.ensures c.args.table.now c.args.cores a b c.requires.one c.requires.other same)
