use Rattle.std.proofs.Common.{◌∙◌, ◌++◌, ◌+◌, ◌<◌, ◌&&◌, Bool, [], ◌∷◌, ap, arith, length}
use Rattle.std.specs.Prelude.{nat_lt}
use Rattle.std.specs.Ordering.{nat_cmp}
use Rattle.std.specs.BTreeMap.{insert_entry}
use Rattle.start_windows.specs.Ends.{HeldEnds}
use Rattle.sag_step.specs.Next.{still_tracked}
use Rattle.sag_step.proofs.TrackedEnds.{is_rising-still_tracked}
use Rattle.sag_step.proofs.ListsOfEnds.{left_from, new_rest, first_left, then_left, kept-above, kept-room, kept-next, last_left, length-kept}
use Rattle.sag_step.proofs.ends.keep_tracked.Goals as goal

pub keep_first-waits-requires-clause-above : goal.keep_first-waits-requires-clause-above
keep_first-waits-requires-clause-above c = λ first tracked.
    let t = c.args.table.now in
    let s = c.args.set.now.members in
    let from = c.args.from.now.items in
    let i = c.loop-place.place in
    let e = c.at-other.result in
    let waits = c.loop-place.waits in
    let rest = left_from t s from c.args.job c.args.finish (i + 1) (waits && nat_lt e.0 c.args.job) in
    let whole = still_tracked t s (insert_entry nat_cmp from c.args.job c.args.finish) in
    let is = first_left t s from c.args.job c.args.finish i e c.at-other.ensures.item c.loop-place.into.items whole waits c.loop-place.invariant.new c.loop-place.invariant.kept first in
    kept-above t s c.loop-place.into.items (c.args.job, c.args.finish) (e ∷ rest) whole is (is_rising-still_tracked t s from c.args.job c.args.finish c.len-place-end.ensures.ends.rising) tracked

pub keep_first-waits-requires-clause-room : goal.keep_first-waits-requires-clause-room
keep_first-waits-requires-clause-room c = λ first tracked.
    let t = c.args.table.now in
    let s = c.args.set.now.members in
    let from = c.args.from.now.items in
    let e = c.at-other.result in
    let rest = left_from t s from c.args.job c.args.finish (c.loop-place.place + 1) (c.loop-place.waits && nat_lt e.0 c.args.job) in
    let whole = still_tracked t s (insert_entry nat_cmp from c.args.job c.args.finish) in
    let is = first_left t s from c.args.job c.args.finish c.loop-place.place c.at-other.result c.at-other.ensures.item c.loop-place.into.items whole c.loop-place.waits c.loop-place.invariant.new c.loop-place.invariant.kept first in
    let fewer : length c.loop-place.into.items < length whole = kept-room t s c.loop-place.into.items (c.args.job, c.args.finish) (e ∷ rest) whole is tracked in
    omega (arith, fewer, length-kept t s from c.args.job c.args.finish, c.requires.room, c.loop-place.invariant.room)

pub keep-requires-clause-above : goal.keep-requires-clause-above
keep-requires-clause-above c = λ tracked.
    let t = c.args.table.now in
    let s = c.args.set.now.members in
    let from = c.args.from.now.items in
    let e = c.at-other.result in
    let rest = left_from t s from c.args.job c.args.finish (c.loop-place.place + 1) (c.loop-place.waits && nat_lt e.0 c.args.job) in
    let whole = still_tracked t s (insert_entry nat_cmp from c.args.job c.args.finish) in
    let is = then_left t s from c.args.job c.args.finish c.loop-place.place e c.at-other.ensures.item c.loop-place.into.items whole c.loop-place.waits c.loop-place.invariant.new c.loop-place.invariant.kept in
    let items = ap (λ (h : HeldEnds). h.items ++ still_tracked t s (e ∷ rest)) c.keep_first-waits.ensures.kept in
    kept-above t s c.keep_first-waits.new.into.items e rest whole (items ∙ is) (is_rising-still_tracked t s from c.args.job c.args.finish c.len-place-end.ensures.ends.rising) tracked

pub keep-requires-clause-room : goal.keep-requires-clause-room
keep-requires-clause-room c = λ tracked.
    let t = c.args.table.now in
    let s = c.args.set.now.members in
    let from = c.args.from.now.items in
    let e = c.at-other.result in
    let rest = left_from t s from c.args.job c.args.finish (c.loop-place.place + 1) (c.loop-place.waits && nat_lt e.0 c.args.job) in
    let whole = still_tracked t s (insert_entry nat_cmp from c.args.job c.args.finish) in
    let is = then_left t s from c.args.job c.args.finish c.loop-place.place e c.at-other.ensures.item c.loop-place.into.items whole c.loop-place.waits c.loop-place.invariant.new c.loop-place.invariant.kept in
    let items = ap (λ (h : HeldEnds). h.items ++ still_tracked t s (e ∷ rest)) c.keep_first-waits.ensures.kept in
    let room = ap (λ (h : HeldEnds). h.room) c.keep_first-waits.ensures.kept in
    let fewer : length c.keep_first-waits.new.into.items < length whole = kept-room t s c.keep_first-waits.new.into.items e rest whole (items ∙ is) tracked in
    omega (arith, fewer, length-kept t s from c.args.job c.args.finish, c.requires.room, c.loop-place.invariant.room, room)

pub loop-place-preserved : goal.loop-place-preserved
loop-place-preserved c =
    let t = c.args.table.now in
    let s = c.args.set.now.members in
    let from = c.args.from.now.items in
    let e = c.at-other.result in
    let rest = left_from t s from c.args.job c.args.finish (c.loop-place.place + 1) (c.loop-place.waits && nat_lt e.0 c.args.job) in
    let whole = still_tracked t s (insert_entry nat_cmp from c.args.job c.args.finish) in
    let is = then_left t s from c.args.job c.args.finish c.loop-place.place e c.at-other.ensures.item c.loop-place.into.items whole c.loop-place.waits c.loop-place.invariant.new c.loop-place.invariant.kept in
    let items = ap (λ (h : HeldEnds). h.items ++ still_tracked t s (e ∷ rest)) c.keep_first-waits.ensures.kept in
    let after = λ (b : Bool). still_tracked t s (left_from t s from c.args.job c.args.finish (c.loop-place.place + 1) b) in
    record {
      new = new_rest t s from c.args.job c.args.finish c.loop-place.place e c.at-other.ensures.item c.loop-place.invariant.new;
      kept =
          ap (λ (h : HeldEnds). h.items ++ after c.keep_first-waits.result) c.keep.ensures
          ∙ ap (λ b. (c.keep_first-waits.new.into.items ++ still_tracked t s (e ∷ [])) ++ after b) c.keep_first-waits.ensures.waits
          ∙ kept-next t s c.keep_first-waits.new.into.items e rest whole (items ∙ is);
      room = ap (λ (h : HeldEnds). h.room) c.keep.ensures ∙ ap (λ (h : HeldEnds). h.room) c.keep_first-waits.ensures.kept ∙ c.loop-place.invariant.room;
    }

pub keep-requires-then-waits-clause-above : goal.keep-requires-then-waits-clause-above
keep-requires-then-waits-clause-above c = λ tracked.
    let t = c.args.table.now in
    let s = c.args.set.now.members in
    let from = c.args.from.now.items in
    let whole = still_tracked t s (insert_entry nat_cmp from c.args.job c.args.finish) in
    let is = last_left t s from c.args.job c.args.finish c.loop-place.place c.loop-place.into.items whole c.loop-place.waits c.if-waits.true (omega (arith, c.loop-place-test.false, c.len-place-end.ensures.count)) c.loop-place.invariant.kept in
    kept-above t s c.loop-place.into.items (c.args.job, c.args.finish) [] whole is (is_rising-still_tracked t s from c.args.job c.args.finish c.len-place-end.ensures.ends.rising) tracked

pub keep-requires-then-waits-clause-room : goal.keep-requires-then-waits-clause-room
keep-requires-then-waits-clause-room c = λ tracked.
    let t = c.args.table.now in
    let s = c.args.set.now.members in
    let from = c.args.from.now.items in
    let whole = still_tracked t s (insert_entry nat_cmp from c.args.job c.args.finish) in
    let is = last_left t s from c.args.job c.args.finish c.loop-place.place c.loop-place.into.items whole c.loop-place.waits c.if-waits.true (omega (arith, c.loop-place-test.false, c.len-place-end.ensures.count)) c.loop-place.invariant.kept in
    let fewer : length c.loop-place.into.items < length whole = kept-room t s c.loop-place.into.items (c.args.job, c.args.finish) [] whole is tracked in
    omega (arith, fewer, length-kept t s from c.args.job c.args.finish, c.requires.room, c.loop-place.invariant.room)
