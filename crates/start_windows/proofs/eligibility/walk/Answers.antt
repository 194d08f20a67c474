use Rattle.std.proofs.Common.{◌≡◌, ℕ, ◌<◌, ◌+◌, ◌∷◌, ◌++◌, [], List, map, take, get_or, true, refl, min, length, arith, ap, sym, subst, ◌∙◌, Some, None}
use Rattle.std.specs.Option.{option_map_or}
use Rattle.std.proofs.lemmas.List.{get_or_read}
use Rattle.start_windows.specs.declared.eligibility.Prospect.{Prospect}
use Rattle.start_windows.specs.Window.{is_candidate, latest_ready}
use Rattle.start_windows.specs.Eligible.{IsFront}
use Rattle.start_windows.specs.Prospects.{AreProspects, Collected, kept_with, prospect_of, sure_with}
use Rattle.job_model.specs.Ranks.{rank_of}
use Rattle.start_windows.proofs.Collecting.{Collected-none, Collected-other, Collected-kept, Collected-same, beyond_same, AreProspects-kept}
use Rattle.start_windows.proofs.ByRelease.{Collected-start, front_dispatched, no_candidates, order_more, walk_stop}
use Rattle.start_windows.proofs.eligibility.walk.Goals as goal
use Rattle.start_windows.proofs.eligibility.walk.Goals.{then-candidate+in_ok-sure, else-candidate}

pub loop-place-init : goal.loop-place-init
loop-place-init c =
    let table = c.args.table.now in
    let set = c.args.set.now.members in
    let ends = c.args.ends.now.items in
    let order = c.args.order.now in
    let start = c.from-place.result in
    let out = no_candidates table set (map (λ e. e.1) (take start order)) (front_dispatched table set order start c.requires.own (subst (IsFront table set) (sym c.from-place.ensures) c.requires.front)) in
    let walked : Collected table set ends c.args.first None (map (λ e. e.1) (take start order)) [] None =
    Collected-start table set ends c.args.first None [] [] None (map (λ e. e.1) (take start order)) (Collected-none table set ends c.args.first) out in
    let empty : c.clear.new.self.items ≡ [] = c.clear.ensures.items in
    record {
      prospects = subst (AreProspects table ends) (sym empty) (λ k d lt. absurd (omega arith));
      collected = Collected-same table set ends c.args.first None _ _ _ [] _ None _ refl refl empty refl walked;
    }

pub returns-then-comes_after-clause-collected : goal.returns-then-comes_after-clause-collected
returns-then-comes_after-clause-collected c =
    let order = c.args.order.now in
    let place = c.loop-place.place in
    let there : place < length order = omega arith in
    let item = get_or_read order place c.index-order-place.result there c.index-order-place.is (0, 0) in
    let beyond = beyond_same c.loop-place.ready c.hi.result c.args.first.hi c.index-order-place.result.0 (get_or order place (0, 0)).0 c.hi.ensures.hi (ap (λ (e : ℕ × ℕ). e.0) item) (c.comes_after.ensures.0 c.if-comes_after.true) in
    record { sure = c.loop-place.sure; collected = walk_stop c.args.table.now c.args.set.now.members c.args.ends.now.items c.args.first c.loop-place.sure c.len-count.ensures.table order place (map (λ (x : Prospect). x.job) c.loop-place.found.items) c.loop-place.ready c.requires.order there c.loop-place.invariant.collected beyond }

pub loop-place-preserved : goal.loop-place-preserved
loop-place-preserved c =
    let table = c.args.table.now in
    let set = c.args.set.now.members in
    let ends = c.args.ends.now.items in
    let first = c.args.first in
    let order = c.args.order.now in
    let place = c.loop-place.place in
    let there : place < length order = omega arith in
    let entry = c.index-order-place.result in
    let is = get_or_read order place entry there c.index-order-place.is (0, 0) in
    let no = entry.1 in
    let js = λ (cs : List Prospect). map (λ (x : Prospect). x.job) cs in
    let seen = map (λ (e : ℕ × ℕ). e.1) (take place order) in
    let more : map (λ (e : ℕ × ℕ). e.1) (take (place + 1) order) ≡ seen ++ no ∷ [] = order_more order place there ∙ ap (λ (e : ℕ × ℕ). seen ++ e.1 ∷ []) (sym is) in
    let in_range : no < length table.jobs = subst (λ (e : ℕ × ℕ). e.1 < length table.jobs) (sym is) (c.requires.order.own place (0, 0) there).1 in
    let walked = c.loop-place.invariant.collected in
    elim c.if-candidate.branch [
      | then-candidate+in_ok-sure w ↦
          let item = w.look_up-item.result in
          let look : item ≡ prospect_of table ends no = w.look_up-item.ensures in
          let job : item.job ≡ no = ap (λ (x : Prospect). x.job) look in
          let own : item ≡ prospect_of table ends item.job = look ∙ ap (prospect_of table ends) (sym job) in
          let high : item.latest ≡ latest_ready table ends item.job = ap (λ (x : Prospect). x.latest) own in
          let cand : is_candidate table set item.job ≡ true = ap (is_candidate table set) job ∙ sym c.candidate.ensures ∙ w.if-candidate.true in
          let rank : item.rank ≡ rank_of table item.job = ap (λ (x : Prospect). x.rank) own in
          let items : c.if-candidate.found.items ≡ kept_with c.loop-place.sure item c.loop-place.found.items = rw w.found-is w.in_ok-sure.ensures.kept in
          let sure : c.if-candidate.sure ≡ sure_with first.lo c.loop-place.sure item = rw w.sure-is (w.in_ok-sure.ensures.sure ∙ ap (λ n. sure_with n c.loop-place.sure item) w.lo.ensures.lo) in
          let low : c.if-candidate.ready ≡ Some (option_map_or (λ t. min t item.latest) c.loop-place.ready item.latest) = rw w.ready-is (ap Some w.lesser.ensures) in
          let there' : item.job < length table.jobs = subst (λ (j : ℕ). j < length table.jobs) (sym job) in_range in
          record {
            prospects = subst (AreProspects table ends) (sym items) (AreProspects-kept table ends c.loop-place.sure c.loop-place.found.items item c.loop-place.invariant.prospects own there');
            collected = Collected-same table set ends first _ _ _ _ _ _ _ _ sure (more ∙ ap (λ j. seen ++ j ∷ []) (sym job)) items low (Collected-kept table set ends first c.loop-place.sure seen c.loop-place.found.items c.loop-place.ready item walked cand high rank);
          }
      | else-candidate w ↦
          let items : c.if-candidate.found.items ≡ c.loop-place.found.items = rw w.found-is refl in
          let low : c.if-candidate.ready ≡ c.loop-place.ready = w.ready-is in
          let sure : c.if-candidate.sure ≡ c.loop-place.sure = w.sure-is in
          record {
            prospects = subst (AreProspects table ends) (sym items) c.loop-place.invariant.prospects;
            collected = Collected-same table set ends first _ _ _ _ _ _ _ _ sure more items low (Collected-other table set ends first c.loop-place.sure seen (js c.loop-place.found.items) c.loop-place.ready no walked (sym c.candidate.ensures ∙ w.if-candidate.false));
          }
    ]

pub candidate-requires-clause-job : goal.candidate-requires-clause-job
candidate-requires-clause-job c =
    let order = c.args.order.now in
    let place = c.loop-place.place in
    let there : place < length order = omega arith in
    let is = get_or_read order place c.index-order-place.result there c.index-order-place.is (0, 0) in
    subst (λ (e : ℕ × ℕ). e.1 < length c.args.table.now.jobs) (sym is) (c.requires.order.own place (0, 0) there).1
