use Rattle.std.proofs.Common.{◌≡◌, ◌<◌, ◌∙◌, ap, arith, get_or, length, rules}
use Rattle.std.proofs.lemmas.List.{get_or_default}
use Rattle.std.proofs.lemmas.List.Sorted.{answers_always}
use Rattle.job_model.proofs.RankLemmas.{AreRanks-all, Entry, HasKeys, HasKeys-more, HasRanks-more, HasRanks-none, IsUrgencyOrder-sorted, no_entry}
use Rattle.job_model.proofs.ranks.ranks.Goals as goal

pub loop-i-preserved : goal.loop-i-preserved
loop-i-preserved c = rw c.in_ok-push.ensures.items (HasKeys-more c.args.jobs.now c.loop-i.i c.loop-i.order.items (omega arith) c.loop-i.invariant)

pub loop-place-init : goal.loop-place-init
loop-place-init c =
    let jobs = c.args.jobs.now in
    let all : HasKeys jobs (length jobs) c.loop-i.order.items =
    let whole : c.loop-i.i ≡ length jobs = omega arith in
    rw whole at c.loop-i.invariant in
    let sorted = IsUrgencyOrder-sorted jobs c.requires c.loop-i.order.items c.sort_unstable_by_key.new.self.items all c.sort_unstable_by_key.ensures.permutation
    (c.sort_unstable_by_key.ensures.sorted (λ (e : Entry). e.0) (answers_always _ _ _ (λ f a r g h. search rules))) in
    record { sorted = rw c.deref-entry-items.ensures.value sorted; ranks = HasRanks-none jobs c.deref-entry-items.result.now c.in_ok-ranks.ranks.items (search rules) }

pub overflow_cast-place : goal.overflow_cast-place
overflow_cast-place c =
    let place : c.loop-place.place < length c.args.jobs.now = omega (arith, c.loop-place-test.true, c.loop-place.invariant.sorted.few) in
    omega (arith, place, c.requires.few_jobs)

pub index_mut-requires : goal.index_mut-requires
index_mut-requires c =
    let place : c.loop-place.place < length c.args.jobs.now = omega (arith, c.loop-place-test.true, c.loop-place.invariant.sorted.few) in
    let entry = c.entry-item.is ∙ get_or_default c.deref-entry-items.result.now c.loop-place.place c.entry-item.result no_entry c.loop-place-test.true in
    let no : c.from.result ≡ (get_or c.deref-entry-items.result.now c.loop-place.place no_entry).1 = c.from.ensures ∙ c.no.view_is ∙ ap (λ (e : Entry). e.1) entry in
    omega (arith, no, c.loop-place.invariant.sorted.own c.loop-place.place place, c.loop-place.invariant.ranks.one_each)

pub loop-place-preserved : goal.loop-place-preserved
loop-place-preserved c =
    let place : c.loop-place.place < length c.args.jobs.now = omega (arith, c.loop-place-test.true, c.loop-place.invariant.sorted.few) in
    let entry = c.entry-item.is ∙ get_or_default c.deref-entry-items.result.now c.loop-place.place c.entry-item.result no_entry c.loop-place-test.true in
    let no : c.from.result ≡ (get_or c.deref-entry-items.result.now c.loop-place.place no_entry).1 = c.from.ensures ∙ c.no.view_is ∙ ap (λ (e : Entry). e.1) entry in
    let ranks = HasRanks-more c.args.jobs.now c.deref-entry-items.result.now c.loop-place.place c.loop-place.ranks.items c.loop-place.invariant.sorted place c.loop-place.invariant.ranks in
    record { sorted = c.loop-place.invariant.sorted; ranks = rw no ranks }

pub returns : goal.returns
returns c =
    let whole : c.loop-place.place ≡ length c.args.jobs.now = omega (arith, c.loop-place-test.false, c.loop-place.auto.place-end, c.loop-place.invariant.sorted.few) in
    AreRanks-all c.args.jobs.now c.deref-entry-items.result.now c.loop-place.ranks.items c.loop-place.invariant.sorted (rw whole at c.loop-place.invariant.ranks)
