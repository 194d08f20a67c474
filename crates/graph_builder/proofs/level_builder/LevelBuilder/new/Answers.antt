use Rattle.std.proofs.Common.{sym, subst, refl}
use Rattle.sag_step.specs.State.{root}
use Rattle.sag_step.specs.Shape.{IsState}
use Rattle.sag_step.specs.State.{states_of}
use Rattle.graph_builder.specs.Standing.{IsStanding}
use Rattle.std.specs.List.{AllByRecursion}
use Rattle.graph_builder.specs.Writing.{IsTimed}
use Rattle.graph_builder.proofs.SpanLemmas.{no-spans-fit}
use Rattle.graph_builder.proofs.StandLemmas.{first-is, first-ready, first-stands}
use Rattle.graph_builder.proofs.level_builder.LevelBuilder.new.Goals as goal

pub invariant_of-result : goal.invariant_of-result
invariant_of-result c =
    let table = c.args.table.now in
    let m = c.args.cores in
    let is : IsState table m (root table m) = (c.root_is_shaped.ensures table m c.requires.some_core).is_state in (
      subst IsStanding (sym (first-is table m c.args.budget (states_of c.in_ok-states.states.items) c.new.result.items c.in_ok-spans.spans.items c.in_ok-states.ensures c.new.ensures.items c.in_ok-spans.ensures))
          (first-stands table m c.args.budget c.len-count.ensures.table c.requires.some_core c.requires.few_cores c.requires.some_budget),
      first-ready table m 281474976710655 (states_of c.in_ok-states.states.items) c.in_ok-fronts.fronts.items is c.in_ok-states.ensures c.in_ok-fronts.ensures.items,
      rw c.in_ok-scratch.ensures (record { is_state = is; room = refl }),
      c.requires.few,
      subst (AllByRecursion IsTimed) (sym c.new.ensures.items) tt,
      no-spans-fit table 4611686018427387903 c.in_ok-spans.spans.items c.in_ok-spans.ensures,
    )

pub returns : goal.returns
returns c =
    first-is c.args.table.now c.args.cores c.args.budget (states_of c.in_ok-states.states.items) c.new.result.items c.in_ok-spans.spans.items c.in_ok-states.ensures c.new.ensures.items c.in_ok-spans.ensures
