use Rattle.std.proofs.Common.{ℕ, refl, ◌≡◌, ◌∙◌, ◌+◌, ◌<◌, List, length, sym, ap, subst, arith, take, get_or}
use Rattle.std.specs.List.{filter_map}
use Rattle.std.proofs.lemmas.List.{take_all, take_more_set}
use Rattle.start_windows.specs.declared.eligibility.Prospect.{Prospect}
use Rattle.std.specs.Bool.{OnTrue}
use Rattle.start_windows.specs.Prospects.{IsBehindOne, jobs_of, offer_over}
use Rattle.job_model.specs.Table.{Table}
use Rattle.sag_time.specs.Interval.{Interval}
use Rattle.start_windows.proofs.ByUrgency.{IsLast, Own}
use Rattle.start_windows.proofs.Held.{IsHeld, IsHeld-behind, IsHeld-other, IsHeld-push, IsPassed-more, IsPassed-set, read_passed}
use Rattle.start_windows.proofs.InOrder.{IsLast-at, cut_at, front_more, offer_at, window_at}
use Rattle.start_windows.proofs.eligibility.windows_by_urgency.Goals as goal
use Rattle.start_windows.proofs.eligibility.windows_by_urgency.Goals.{then-is_tied+then-not-is_behind_one, else-is_tied, else-is_tied-via-then-is_tied+else-not-is_behind_one, else-is_tied-via-else-is_tied}

-- the same of equal lists
held_at : {table : Table} {ends : List (ℕ × Interval)} {seen held seen' held' : List Prospect} → IsHeld table ends seen held → seen' ≡ seen → held' ≡ held → IsHeld table ends seen' held'
held_at {table} {ends} {seen} {held} {seen'} {held'} h p q = subst (λ l. IsHeld table ends l held') (sym p) (subst (IsHeld table ends seen) (sym q) h)

pub window_behind-window-requires : goal.window_behind-window-requires
window_behind-window-requires c = c.loop-place.invariant.held.own

pub returns-then-item-lo : goal.returns-then-item-lo
returns-then-item-lo c =
    let table = c.args.table.now in
    let ends = c.args.ends.now.items in
    let first = c.args.first in
    let all = c.args.ranked.now in
    let place = c.loop-place.place in
    let x = c.index-ranked-place.result in
    let so_far = c.loop-place.invariant in
    let below : place < length all = omega (arith, so_far.passed.long, c.loop-place-test.true) in
    let is : x ≡ get_or all place x = read_passed all c.loop-place.ranked c.loop-place.tied place x so_far.passed c.index-ranked-place.is in
    let window = c.window_behind-window.ensures ∙ window_at table c.requires.table ends first c.args.certain all c.requires.prospects c.requires.urgency place x c.loop-place.last (take c.loop-place.tied c.loop-place.ranked) below is so_far.last so_far.held in
    offer_at table c.requires.table ends first c.args.certain all c.requires.prospects c.requires.urgency place x c.window_behind-window.result c.loop-place.into.items c.push_window.new.into.items below is window so_far.windows c.in_ok-push_window.ensures
    ∙ cut_at table c.requires.table ends first c.args.certain all c.requires.prospects c.requires.urgency place x below is (omega (arith, c.if-item-lo.true, c.lo.ensures.lo))

pub loop-place-preserved : goal.loop-place-preserved
loop-place-preserved c =
    let table = c.args.table.now in
    let ends = c.args.ends.now.items in
    let first = c.args.first in
    let all = c.args.ranked.now in
    let ranked = c.loop-place.ranked in
    let place = c.loop-place.place in
    let x = c.index-ranked-place.result in
    let so_far = c.loop-place.invariant in
    let there : place < length ranked = omega (arith, so_far.passed.long, c.loop-place-test.true) in
    let below : place < length all = omega (arith, so_far.passed.long, there) in
    let is : x ≡ get_or all place x = read_passed all ranked c.loop-place.tied place x so_far.passed c.index-ranked-place.is in
    let window = c.window_behind-window.ensures ∙ window_at table c.requires.table ends first c.args.certain all c.requires.prospects c.requires.urgency place x c.loop-place.last (take c.loop-place.tied ranked) below is so_far.last so_far.held in
    let windows = offer_at table c.requires.table ends first c.args.certain all c.requires.prospects c.requires.urgency place x c.window_behind-window.result c.loop-place.into.items c.push_window.new.into.items below is window so_far.windows c.in_ok-push_window.ensures in
    let after : 0 < x.latest = omega (arith, c.if-item-lo.false) in
    let last = subst (λ n. IsLast c.args.certain n (take (place + 1) all)) (sym c.min-last.ensures) (IsLast-at c.args.certain c.loop-place.last all place x below is so_far.last after) in
    let seen = take place all in
    let kept = take c.loop-place.tied ranked in
    let own : Own table ends x = subst (λ (y : Prospect). Own table ends y) (sym is) (c.requires.prospects place x below) in
    let on = IsPassed-more all ranked c.loop-place.tied place so_far.passed below in
    elim c.if-is_tied.branch [
      | then-is_tied+then-not-is_behind_one w ↦
          let tied = sym c.is_tied.ensures ∙ w.if-is_tied.true in
          let room : c.loop-place.tied < length ranked = omega (arith, so_far.passed.behind, there) in
          let passed = IsPassed-set all ranked c.loop-place.tied place x so_far.passed below in
          let more = IsHeld-push table ends seen kept x so_far.held tied own in
          record { passed = rw (w.ranked-is, w.tied-is) passed; held = rw (w.ranked-is, w.tied-is) (held_at more (front_more all place x below is) (take_more_set ranked c.loop-place.tied x room)); last = last; windows = windows }
      | else-is_tied w ↦
          let same = ap (λ n. take n c.if-is_tied.ranked) w.tied-is ∙ ap (take c.loop-place.tied) w.ranked-is in
          let held : IsHeld table ends (take (place + 1) all) kept = elim w.else-is_tied.branch [
            | else-is_tied-via-then-is_tied+else-not-is_behind_one w' ↦
                held_at (IsHeld-behind table ends seen kept x so_far.held (sym c.is_tied.ensures ∙ w'.if-is_tied.true) own
                (subst (λ b. OnTrue b (IsBehindOne table kept x)) w'.if-not-is_behind_one.false w'.is_behind_one.ensures)) (front_more all place x below is) refl
            | else-is_tied-via-else-is_tied w' ↦ held_at (IsHeld-other table ends seen kept x so_far.held (sym c.is_tied.ensures ∙ w'.if-is_tied.false)) (front_more all place x below is) refl
          ] in
          record { passed = rw (w.ranked-is, w.tied-is) on; held = held_at held refl same; last = last; windows = windows }
    ]

pub returns : goal.returns
returns c =
    let offer = offer_over c.args.table.now c.args.ends.now.items c.args.first c.args.certain (jobs_of c.args.ranked.now) in
    c.loop-place.invariant.windows ∙ ap (λ (l : List Prospect). filter_map offer (jobs_of l)) (take_all c.loop-place.place c.args.ranked.now c.loop-place-test.false)
