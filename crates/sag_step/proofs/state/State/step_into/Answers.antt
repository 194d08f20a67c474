use Rattle.std.proofs.Common.{◌∙◌, ◌≤◌, ℕ, List, All, ap, arith, length, subst, sym}
use Rattle.std.specs.Prelude.{IsTrue}
use Rattle.sag_time.specs.Interval.{Interval}
use Rattle.std.specs.Map.{keys_of}
use Rattle.job_model.specs.declared.job_row.Job.{Job}
use Rattle.job_sets.specs.Subset.{is_member, is_within}
use Rattle.sag_step.specs.declared.TheConstants.{MOST_STEP_TIME}
use Rattle.sag_step.specs.State.{HeldState}
use Rattle.std.proofs.Common.{◌≡◌, ◌+◌, rules, min}
use Rattle.std.specs.Ordering.{nat_cmp}
use Rattle.std.specs.BTreeMap.{insert_entry}
use Rattle.job_model.specs.Table.{job_at, predecessors}
use Rattle.job_sets.specs.Subset.{Subset, with_number}
use Rattle.sag_time.specs.Sorted.{after_start, cap_first}
use Rattle.sag_time.proofs.CapFirst.{cap_first-most}
use Rattle.start_windows.specs.Ends.{HeldEnds}
use Rattle.sag_step.specs.Next.{cut_ends, finish_interval, last_predecessors, next, still_last, still_tracked}
use Rattle.sag_step.proofs.CutEnds.{all-begun, begun-kept, listed-below, still_tracked-cut}
use Rattle.sag_step.proofs.NextStates.{begun, ends_rise, HasRoom, HasRoom-from, job-unlisted, own-predecessor}
use Rattle.sag_step.proofs.state.State.step_into.Goals as goal

pub overflow_add-earliest : goal.overflow_add-earliest
overflow_add-earliest g c =
    let room : HasRoom c.args.table.now c.args.job c.args.window MOST_STEP_TIME =
    HasRoom-from c.args.table.now c.args.self.now.state c.args.job c.args.window MOST_STEP_TIME c.job.ensures.table c.requires.in_limit (omega arith) c.requires.window in
    let cost = ap (λ (a : Job). a.cmin) c.job.ensures.job in
    omega (arith, room.order, room.costs, room.latest, cost)

pub overflow_add-latest : goal.overflow_add-latest
overflow_add-latest g c =
    let room : HasRoom c.args.table.now c.args.job c.args.window MOST_STEP_TIME =
    HasRoom-from c.args.table.now c.args.self.now.state c.args.job c.args.window MOST_STEP_TIME c.job.ensures.table c.requires.in_limit (omega arith) c.requires.window in
    let cost = ap (λ (a : Job). a.cmax) c.job-2.ensures.job in
    omega (arith, room.latest, cost)

pub keep_tracked-requires-clause-new : goal.keep_tracked-requires-clause-new
keep_tracked-requires-clause-new g c =
    ap (λ (h : HeldState). is_member c.args.job (keys_of h.state.ends)) c.self.view_is
    ∙ job-unlisted c.args.table.now (length c.args.self.now.state.low) c.args.self.now.state c.args.job c.args.window c.requires.state c.requires.window

pub end_predecessors-requires : goal.end_predecessors-requires
end_predecessors-requires g c =
    let s = c.args.self.now.state in
    let t = c.args.table.now in
    let j = c.args.job in
    let m = length s.low in
    let own : c.self.inside.ends.items ≡ s.ends = ap (λ (h : HeldState). h.state.ends) c.self.view_is in
    let begun_before = all-begun t j c.args.window.lst s.ends (ends_rise t s j c.args.window c.job.ensures.table c.requires.window m c.requires.state)
    (begun t s j c.args.window c.job.ensures.table c.requires.window m c.requires.state) in
    let kept = ap (λ (h : HeldEnds). h.items) c.keep_tracked.ensures in
    let begun_after = begun-kept t j c.args.window.lst (own-predecessor t s j c.args.window c.requires.window) c.add.new.self.members c.self.inside.ends.items c.unwrap-finish.result (rw own begun_before) in
    record { begun = subst (λ (es : List (ℕ × Interval)). All (λ e. IsTrue (is_member e.0 (predecessors t j)) → e.1.lo ≤ c.args.window.lst) es) (sym kept) begun_after }

pub keep_last-requires-clause-jobs : goal.keep_last-requires-clause-jobs
keep_last-requires-clause-jobs g c =
    let s = c.args.self.now.state in
    let own = c.self.view_is in
    let size : c.add.new.self.size ≡ s.set.size = c.add.ensures.set.0 ∙ ap (λ (x : Subset). x.size) (c.copy_from.ensures ∙ ap (λ (h : HeldState). h.state.set) own) in
    rw (size, ap (λ (h : HeldState). h.state.ends) own) (listed-below c.args.table.now s.set s.ends c.requires.state.set c.requires.state.shape.tracked)

pub keep_last-requires-clause-listed : goal.keep_last-requires-clause-listed
keep_last-requires-clause-listed g c = ap (λ (h : HeldState). is_within h.state.last.members (keys_of h.state.ends)) c.self.view_is ∙ c.requires.state.shape.last_tracked

pub returns-clause-next : goal.returns-clause-next
returns-clause-next g c =
    let s = c.args.self.now.state in
    let t = c.args.table.now in
    let j = c.args.job in
    let w = c.args.window in
    let own = c.self.view_is in
    let cost : c.job.result.now ≡ job_at t j = c.job.ensures.job in
    let cost_2 : c.job-2.result.now ≡ job_at t j = c.job-2.ensures.job in
    let finish : c.unwrap-finish.result ≡ finish_interval t j w = search rules in
    let free : c.count_last-free.result ≡ min (last_predecessors t s.last.members j) (length s.high) =
    c.count_last-free.ensures ∙ ap (min (last_predecessors t c.self.inside.last.members j)) c.len.ensures.count
    ∙ (λ i. min (last_predecessors t (own i).state.last.members j) (length (own i).state.high)) in
    let capped : c.cap_first.new.self ≡ cap_first s.low (last_predecessors t s.last.members j) w.lst s.high =
    c.cap_first.ensures ∙ (λ i. cap_first (own i).state.low (free i) w.lst ((c.copy_from-3.ensures ∙ ap (λ (h : HeldState). h.state.high) own) i))
    ∙ cap_first-most s.low (last_predecessors t s.last.members j) w.lst s.high in
    let high : c.replace_first-2.new.self ≡ after_start w.est (finish_interval t j w).hi (cap_first s.low (last_predecessors t s.last.members j) w.lst s.high) =
    c.replace_first-2.ensures ∙ (λ i. after_start w.est (w.lst + (cost_2 i).cmax) (capped i)) in
    let low : c.replace_first.new.self ≡ after_start w.est (finish_interval t j w).lo s.low =
    c.replace_first.ensures ∙ (λ i. after_start w.est (w.est + (cost i).cmin) ((c.copy_from-2.ensures ∙ ap (λ (h : HeldState). h.state.low) own) i)) in
    let copied : c.copy_from.new.self ≡ s.set = c.copy_from.ensures ∙ ap (λ (h : HeldState). h.state.set) own in
    let set : c.add.new.self ≡ record { size = s.set.size; members = with_number j s.set.members } =
    λ i. record { size = (c.add.ensures.set.0 ∙ ap (λ (x : Subset). x.size) copied) i; members = (c.add.ensures.set.1 ∙ ap (λ (x : Subset). with_number j x.members) copied) i } in
    let ends : c.end_predecessors.new.ends.items ≡ (next t s j w).ends =
    ap (λ (h : HeldEnds). h.items) c.end_predecessors.ensures
    ∙ ap (λ (h : HeldEnds). cut_ends t j w.lst h.items) c.keep_tracked.ensures
    ∙ (λ i. cut_ends t j w.lst (still_tracked t (set i).members (insert_entry nat_cmp (own i).state.ends j (finish i))))
    ∙ still_tracked-cut t j w.lst (own-predecessor t s j w c.requires.window) (with_number j s.set.members) s.ends (finish_interval t j w) in
    let last : c.keep_last.new.into ≡ (next t s j w).last =
    c.keep_last.ensures ∙ (λ i. record { size = (own i).state.last.size; members = still_last t (set i).members (own i).state.ends (own i).state.last.members j w.lst }) in
    λ i. record { set = set i; low = low i; high = high i; ends = ends i; last = last i }
