use Rattle.std.proofs.Common.{◌≡◌, ◌<◌, ℕ, List, get_or, ap, sym, subst, ◌∙◌}
use Rattle.std.specs.Prelude.{length, Some}
use Rattle.std.proofs.lemmas.List.{get_or_default}
use Rattle.std.proofs.lemmas.Result.{err_from_is_err_and}
use Rattle.lists.specs.Numbers.{numbers_below}
use Rattle.start_windows.specs.declared.StartWindow.{StartWindow}
use Rattle.sag_step.specs.State.{state_window}
use Rattle.sag_step.specs.Offers.{offer_by}
use Rattle.graph_builder.specs.Filling.{before_of, level_of, with_offer, IsOverWith}
use Rattle.graph_builder.proofs.FillLemmas.{made-all, made-one, not-over, over-never, over-not, over-told, window-of}
use Rattle.graph_builder.proofs.filling.take_offers.Goals as goal

pub take_within-requires-clause-window : goal.take_within-requires-clause-window
take_within-requires-clause-window c =
    let ws = c.args.windows.now in
    let i = c.loop-i.i in
    let w = c.index-windows-i.result in
    let other = c.index-windows-i-in-loop-i.result in
    let one : get_or ws i w ≡ w = sym c.index-windows-i.is in
    let two : get_or ws i other ≡ w = get_or_default ws i other w c.loop-i-test.true ∙ one in
    let lt = subst (λ l. i < length {A = ℕ × StartWindow} l) c.requires.windows c.loop-i-test.true in
    let at = subst (λ (l : List (ℕ × StartWindow)). get_or l i w ≡ w) c.requires.windows one in
    let found = window-of (state_window c.args.table.now c.args.state.now.state) (numbers_below (length c.args.table.now.jobs)) i w lt at in
    ap (λ (x : ℕ × StartWindow). state_window c.args.table.now c.args.state.now.state x.0) one ∙ found ∙ ap (λ (x : ℕ × StartWindow). Some x.1) (sym two)

pub returns-in_err-take_within-clause-spent : goal.returns-in_err-take_within-clause-spent
returns-in_err-take_within-clause-spent c =
    let ws = c.args.windows.now in
    let i = c.loop-i.i in
    let w = c.index-windows-i.result in
    let other = c.index-windows-i-in-loop-i.result in
    let one : get_or ws i w ≡ w = sym c.index-windows-i.is in
    let two : get_or ws i other ≡ w = get_or_default ws i other w c.loop-i-test.true ∙ one in
    let pair : ((get_or ws i w).0, (get_or ws i other).1) ≡ w = λ j. ((one j).0, (two j).1) in
    let f = offer_by c.args.table.now c.args.from c.args.state.now.state in
    let p = err_from_is_err_and c.from_residual.result c.from_residual.ensures.1 in
    rw (p.1, p.2)
    (over-told f ws i w c.loop-i-test.true one c.args.purse (level_of c.loop-i.draft) _ c.loop-i.invariant.over c.in_err-take_within.field-0.0
    (subst (λ (x : ℕ × StartWindow). IsOverWith c.args.purse (with_offer (level_of c.loop-i.draft) (f x)) c.in_err-take_within.field-0.0) pair c.in_err-take_within.ensures.spent))

pub loop-i-preserved : goal.loop-i-preserved
loop-i-preserved c =
    let ws = c.args.windows.now in
    let i = c.loop-i.i in
    let w = c.index-windows-i.result in
    let other = c.index-windows-i-in-loop-i.result in
    let one : get_or ws i w ≡ w = sym c.index-windows-i.is in
    let two : get_or ws i other ≡ w = get_or_default ws i other w c.loop-i-test.true ∙ one in
    let pair : ((get_or ws i w).0, (get_or ws i other).1) ≡ w = λ j. ((one j).0, (two j).1) in
    let f = offer_by c.args.table.now c.args.from c.args.state.now.state in
    let more : level_of c.take_within.new.draft ≡ with_offer (level_of c.loop-i.draft) (f w) =
    c.in_ok-take_within.ensures.taken ∙ ap (λ (x : ℕ × StartWindow). with_offer (level_of c.loop-i.draft) (f x)) pair in
    record {
      made = made-one f ws i w c.loop-i-test.true one (level_of c.loop-i.draft) (level_of c.take_within.new.draft) _ c.loop-i.invariant.made more;
      over = over-not f ws i w c.loop-i-test.true one c.args.purse.budget (before_of c.args.purse) (level_of c.loop-i.draft) (level_of c.take_within.new.draft) _ c.loop-i.invariant.over more
          (not-over c.args.purse (level_of c.take_within.new.draft) c.in_ok-take_within.ensures.fits);
      draft = c.in_ok-take_within.ensures.draft;
      fits = c.in_ok-take_within.ensures.fits;
      scratch = c.take_within.ensures.scratch;
    }

pub returns-clause-taken : goal.returns-clause-taken
returns-clause-taken c =
    made-all (offer_by c.args.table.now c.args.from c.args.state.now.state) c.args.windows.now c.loop-i.i (level_of c.loop-i.draft) _ c.loop-i-test.false c.loop-i.invariant.made

pub returns-clause-within : goal.returns-clause-within
returns-clause-within c =
    over-never (offer_by c.args.table.now c.args.from c.args.state.now.state) c.args.windows.now c.loop-i.i c.args.purse.budget (before_of c.args.purse) (level_of c.loop-i.draft) _
    c.loop-i-test.false c.loop-i.invariant.over
