use Rattle.std.proofs.Common.{ℕ, ◌<◌, List, length, subst, sym, rules}
use Rattle.std.specs.Prelude.{IsPermutation}
use Rattle.std.proofs.lemmas.List.Elements.{All-map, recursion_from_All}
use Rattle.std.proofs.lemmas.List.Sorted.{IsNonDecreasingBy-from_sort_by_key}
use Rattle.start_windows.specs.declared.StartWindow.{StartWindow}
use Rattle.start_windows.specs.declared.eligibility.Prospect.{Prospect}
use Rattle.start_windows.specs.Prospects.{AreProspects, HoldNear, jobs_of}
use Rattle.job_model.proofs.RankLaws.{ranks_order}
use Rattle.start_windows.proofs.Within.{eligible-within}
use Rattle.start_windows.proofs.eligibility.eligible.Goals as goal

pub returns : goal.returns
returns c =
    let table = c.args.table.now in
    let set = c.args.set.now.members in
    let ends = c.args.ends.now.items in
    let w = c.in_ok-certain.certain in
    let found = c.deref_mut.result.now in
    let sorted = c.sort_unstable_by_key.new.self.items in
    let near = subst (λ (l : List Prospect). HoldNear table set ends c.args.first w (jobs_of l)) (sym c.deref_mut.ensures.value) c.in_ok-certain.ensures.near in
    let own = subst (AreProspects table ends) (sym c.deref_mut.ensures.value) c.in_ok-certain.ensures.prospects in
    let below = recursion_from_All (λ j. j < length table.jobs) (jobs_of found) (All-map (λ j. j < length table.jobs) (λ (x : Prospect). x.job) found (λ k d lt. (own k d lt).1)) in
    let moved = subst (λ (l : List (ℕ × StartWindow)). IsPermutation l sorted) c.in_ok-windows_by_urgency.ensures c.sort_unstable_by_key.ensures.permutation in
    let up = IsNonDecreasingBy-from_sort_by_key (λ (e : ℕ × StartWindow). e.0) _ c.sort_unstable_by_key.ensures.sorted (λ a r q k. search rules) in
    record { windows = eligible-within ranks_order table c.in_ok-certain.ensures.table ends c.args.first set (jobs_of found) w sorted c.in_ok-certain.ensures.certain near below moved up }
