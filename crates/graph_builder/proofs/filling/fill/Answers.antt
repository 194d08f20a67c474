use Rattle.std.proofs.Common.{◌≡◌, ◌∙◌, ◌≤◌, ap, sym, subst, get_or}
use Rattle.std.proofs.lemmas.Result.{err_from_is_err_and}
use Rattle.job_sets.specs.Subset.{Subset}
use Rattle.sag_time.specs.Interval.{Interval}
use Rattle.start_windows.specs.Ends.{HeldEnds}
use Rattle.start_windows.specs.Eligible.{IsFront, eligible_windows}
use Rattle.std.proofs.lemmas.List.{length-map}
use Rattle.sag_step.specs.State.{HeldState}
use Rattle.sag_step.specs.State.{states_of}
use Rattle.graph_builder.specs.Fit.{most_at}
use Rattle.sag_step.specs.Offers.{offers_from}
use Rattle.graph_builder.specs.Filling.{FitsBudget, before_of, completed, first_over, level_of, no_level}
use Rattle.graph_builder.proofs.FitLemmas.{ready-at}
use Rattle.graph_builder.proofs.FillLemmas.{made-state, made-whole, offers-first, over-state, over-whole, told-state}
use Rattle.graph_builder.proofs.filling.fill.Goals as goal

pub loop-i-init : goal.loop-i-init
loop-i-init c =
    let table = c.args.table.now in
    let states = states_of c.args.states.now in
    let none : level_of c.in_ok-draft.draft ≡ no_level = λ i. record { states = c.in_ok-draft.ensures.index i; edges = c.in_ok-draft.ensures.edges i } in
    record {
      made = ap (λ l. completed l (offers_from table states 0)) none ∙ ap (completed no_level) (sym (offers-first table states));
      over = ap (λ l. first_over c.args.purse.budget (before_of c.args.purse) l (offers_from table states 0)) none
          ∙ ap (first_over c.args.purse.budget (before_of c.args.purse) no_level) (sym (offers-first table states));
      draft = record {
        ready = rw (c.in_ok-draft.ensures.index, c.in_ok-draft.ensures.fronts) (record { each = tt });
        edges = rw c.in_ok-draft.ensures.edges (record { each = tt });
      };
      fits = subst (FitsBudget c.args.purse) (sym none) c.requires.fits;
      scratch = c.requires.scratch;
    }

pub first_core-requires-clause-some : goal.first_core-requires-clause-some
first_core-requires-clause-some c =
    (ready-at c.args.table.now c.args.cores (most_at c.args.purse.level) c.args.states.now c.args.fronts.now c.loop-i.i c.index-states-i.result c.requires.ready c.loop-i-test.true c.index-states-i.is).some_core

pub first_core-requires-clause-order : goal.first_core-requires-clause-order
first_core-requires-clause-order c =
    (ready-at c.args.table.now c.args.cores (most_at c.args.purse.level) c.args.states.now c.args.fronts.now c.loop-i.i c.index-states-i.result c.requires.ready c.loop-i-test.true c.index-states-i.is).ready.is_state.shape.in_order

pub bounds-fronts-i : goal.bounds-fronts-i
bounds-fronts-i c =
    (ready-at c.args.table.now c.args.cores (most_at c.args.purse.level) c.args.states.now c.args.fronts.now c.loop-i.i c.index-states-i.result c.requires.ready c.loop-i-test.true c.index-states-i.is).in_fronts

pub eligible-requires-clause-size : goal.eligible-requires-clause-size
eligible-requires-clause-size c =
    ap (λ (s : Subset). s.size) c.set-jobs.ensures
    ∙ (ready-at c.args.table.now c.args.cores (most_at c.args.purse.level) c.args.states.now c.args.fronts.now c.loop-i.i c.index-states-i.result c.requires.ready c.loop-i-test.true c.index-states-i.is).ready.is_state.of_table

pub front_from-front-requires-clause-size : goal.front_from-front-requires-clause-size
front_from-front-requires-clause-size c =
    ap (λ (s : Subset). s.size) c.set-jobs.ensures
    ∙ (ready-at c.args.table.now c.args.cores (most_at c.args.purse.level) c.args.states.now c.args.fronts.now c.loop-i.i c.index-states-i.result c.requires.ready c.loop-i-test.true c.index-states-i.is).ready.is_state.of_table

pub front_from-front-requires-clause-from : goal.front_from-front-requires-clause-from
front_from-front-requires-clause-from c =
    subst (λ (s : Subset). IsFront c.args.table.now s.members (get_or c.args.fronts.now c.loop-i.i 0)) (sym c.set-jobs.ensures)
    (ready-at c.args.table.now c.args.cores (most_at c.args.purse.level) c.args.states.now c.args.fronts.now c.loop-i.i c.index-states-i.result c.requires.ready c.loop-i-test.true c.index-states-i.is).ready.is_front

pub take_offers-requires-clause-ready : goal.take_offers-requires-clause-ready
take_offers-requires-clause-ready c =
    let at = ready-at c.args.table.now c.args.cores (most_at c.args.purse.level) c.args.states.now c.args.fronts.now c.loop-i.i c.index-states-i.result c.requires.ready c.loop-i-test.true c.index-states-i.is in
    record {
      is_state = at.ready.is_state;
      in_limit = at.ready.in_limit;
      is_front = subst (λ (s : Subset). IsFront c.args.table.now s.members c.front_from-front.result) c.set-jobs.ensures c.front_from-front.ensures.is_front;
    }

pub take_offers-requires-clause-windows : goal.take_offers-requires-clause-windows
take_offers-requires-clause-windows c =
    let s = c.index-states-i.result.state in
    let table = c.args.table.now in
    c.deref.ensures.value ∙ c.in_ok-eligible.ensures.windows
    ∙ ap (λ (set : Subset). eligible_windows table set.members c.ends.result.now.items c.first_core.result) c.set-jobs.ensures
    ∙ ap (λ (ends : HeldEnds). eligible_windows table s.set.members ends.items c.first_core.result) c.ends.ensures
    ∙ ap (λ (first : Interval). eligible_windows table s.set.members s.ends first) c.first_core.ensures

pub returns-in_err-take_offers-clause-spent : goal.returns-in_err-take_offers-clause-spent
returns-in_err-take_offers-clause-spent c =
    let s = c.index-states-i.result.state in
    let table = c.args.table.now in
    let at = ready-at table c.args.cores (most_at c.args.purse.level) c.args.states.now c.args.fronts.now c.loop-i.i c.index-states-i.result c.requires.ready c.loop-i-test.true c.index-states-i.is in
    let windows = c.deref.ensures.value ∙ c.in_ok-eligible.ensures.windows
    ∙ ap (λ (set : Subset). eligible_windows table set.members c.ends.result.now.items c.first_core.result) c.set-jobs.ensures
    ∙ ap (λ (ends : HeldEnds). eligible_windows table s.set.members ends.items c.first_core.result) c.ends.ensures
    ∙ ap (λ (first : Interval). eligible_windows table s.set.members s.ends first) c.first_core.ensures in
    let p = err_from_is_err_and c.from_residual-in_err-take_offers.result c.from_residual-in_err-take_offers.ensures.1 in
    rw (p.1, p.2)
    (told-state table (states_of c.args.states.now) c.loop-i.i s at.in_level at.at_place c.deref.result.now windows c.args.purse.budget (before_of c.args.purse) (level_of c.loop-i.draft) _
    c.loop-i.invariant.over c.in_err-take_offers.field-0.0 c.in_err-take_offers.ensures.spent)

pub loop-i-preserved : goal.loop-i-preserved
loop-i-preserved c =
    let s = c.index-states-i.result.state in
    let table = c.args.table.now in
    let at = ready-at table c.args.cores (most_at c.args.purse.level) c.args.states.now c.args.fronts.now c.loop-i.i c.index-states-i.result c.requires.ready c.loop-i-test.true c.index-states-i.is in
    let windows = c.deref.ensures.value ∙ c.in_ok-eligible.ensures.windows
    ∙ ap (λ (set : Subset). eligible_windows table set.members c.ends.result.now.items c.first_core.result) c.set-jobs.ensures
    ∙ ap (λ (ends : HeldEnds). eligible_windows table s.set.members ends.items c.first_core.result) c.ends.ensures
    ∙ ap (λ (first : Interval). eligible_windows table s.set.members s.ends first) c.first_core.ensures in
    record {
      made = made-state table (states_of c.args.states.now) c.loop-i.i s at.in_level at.at_place c.deref.result.now windows (level_of c.loop-i.draft) (level_of c.take_offers.new.draft) _
          c.loop-i.invariant.made c.in_ok-take_offers.ensures.taken;
      over = over-state table (states_of c.args.states.now) c.loop-i.i s at.in_level at.at_place c.deref.result.now windows c.args.purse.budget (before_of c.args.purse) (level_of c.loop-i.draft)
          (level_of c.take_offers.new.draft) _ c.loop-i.invariant.over c.in_ok-take_offers.ensures.taken c.in_ok-take_offers.ensures.within;
      draft = c.in_ok-take_offers.ensures.draft;
      fits = c.in_ok-take_offers.ensures.fits;
      scratch = c.take_offers.ensures.scratch;
    }

pub returns-clause-made : goal.returns-clause-made
returns-clause-made c =
    made-whole c.args.table.now (states_of c.args.states.now) c.loop-i.i (level_of c.loop-i.draft)
    (subst (λ n. n ≤ c.loop-i.i) (sym (length-map c.args.states.now (λ (h : HeldState). h.state))) c.loop-i-test.false) c.loop-i.invariant.made

pub returns-clause-within : goal.returns-clause-within
returns-clause-within c =
    over-whole c.args.table.now (states_of c.args.states.now) c.loop-i.i c.args.purse.budget (before_of c.args.purse) (level_of c.loop-i.draft) _
    (subst (λ n. n ≤ c.loop-i.i) (sym (length-map c.args.states.now (λ (h : HeldState). h.state))) c.loop-i-test.false) c.loop-i.invariant.over
