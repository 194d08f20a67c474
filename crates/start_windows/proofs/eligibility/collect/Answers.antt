use Rattle.std.proofs.Common.{◌≡◌, ◌<◌, ℕ, max, map, length, ap, ◌∙◌, rules}
use Rattle.std.specs.Prelude.{unwrap_or}
use Rattle.std.proofs.lemmas.List.Elements.{recursion_from_All}
use Rattle.std.proofs.lemmas.List.Sorted.{All-permutation, IsPermutation-map, IsNonDecreasingBy-from_sort_by_key}
use Rattle.start_windows.specs.declared.eligibility.Prospect.{Prospect}
use Rattle.start_windows.specs.Prospects.{jobs_of, prospect_of}
use Rattle.job_model.proofs.RankLaws.{ranks_order}
use Rattle.start_windows.proofs.ByUrgency.{IsByUrgency-from_sort, Own}
use Rattle.start_windows.proofs.Shuffles.{Rises-by}
use Rattle.start_windows.proofs.ByRelease.{certain-walked, near-walked, once-walked}
use Rattle.start_windows.proofs.eligibility.collect.Goals as goal

pub returns-clause-prospects : goal.returns-clause-prospects
returns-clause-prospects c =
    All-permutation (λ (x : Prospect). (x ≡ prospect_of c.args.table.now c.args.ends.now.items x.job) × (x.job < length c.args.table.now.jobs))
    c.walk.new.found.items c.sort_unstable_by_key.new.self.items c.sort_unstable_by_key.ensures.permutation c.in_ok-ready.ensures.prospects

pub returns-clause-urgency : goal.returns-clause-urgency
returns-clause-urgency c =
    let table = c.args.table.now in
    let ends = c.args.ends.now.items in
    let found = c.walk.new.found.items in
    let sorted = c.sort_unstable_by_key.new.self.items in
    let moved = c.sort_unstable_by_key.ensures.permutation in
    let up = IsNonDecreasingBy-from_sort_by_key (λ (x : Prospect). x.rank) _ c.sort_unstable_by_key.ensures.sorted (λ a r q k. search rules) in
    IsByUrgency-from_sort ranks_order table c.in_ok-ready.ensures.table ends sorted
    (recursion_from_All (Own table ends) sorted (All-permutation (Own table ends) found sorted moved c.in_ok-ready.ensures.prospects)) (Rises-by (λ (x : Prospect). x.rank) sorted up)
    (once-walked table c.args.set.now.members ends c.args.first c.in_ok-ready.ensures.collected.sure (map (λ (e : ℕ × ℕ). e.1) c.args.order.now) (jobs_of found) (jobs_of sorted) c.in_ok-ready.ready c.requires.order.each_job c.in_ok-ready.ensures.collected.collected
    (IsPermutation-map (λ (x : Prospect). x.job) found sorted moved))

pub returns-clause-certain : goal.returns-clause-certain
returns-clause-certain c =
    c.max.ensures ∙ ap (λ n. max n c.unwrap_or.result) c.hi.ensures.hi ∙ ap (max c.args.first.hi) c.unwrap_or.ensures
    ∙ certain-walked c.args.table.now c.args.set.now.members c.args.ends.now.items c.args.first c.in_ok-ready.ensures.collected.sure (map (λ (e : ℕ × ℕ). e.1) c.args.order.now) (map (λ (x : Prospect). x.job) c.walk.new.found.items) c.in_ok-ready.ready
    c.requires.order.each_job c.in_ok-ready.ensures.collected.collected

pub returns-clause-near : goal.returns-clause-near
returns-clause-near c =
    let valued : c.max.result ≡ max c.args.first.hi (unwrap_or c.in_ok-ready.ready 0) = c.max.ensures ∙ ap (λ n. max n c.unwrap_or.result) c.hi.ensures.hi ∙ ap (max c.args.first.hi) c.unwrap_or.ensures in
    near-walked c.args.table.now c.args.set.now.members c.args.ends.now.items c.args.first c.in_ok-ready.ensures.collected.sure (map (λ (e : ℕ × ℕ). e.1) c.args.order.now) (jobs_of c.walk.new.found.items)
    (jobs_of c.sort_unstable_by_key.new.self.items) c.in_ok-ready.ready c.requires.order.each_job c.in_ok-ready.ensures.collected.collected
    (IsPermutation-map (λ (x : Prospect). x.job) c.walk.new.found.items c.sort_unstable_by_key.new.self.items c.sort_unstable_by_key.ensures.permutation) c.max.result valued
