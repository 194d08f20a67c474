use Rattle.std.proofs.Common.{ℕ, ◌<◌, ◌∙◌, ap, length, not, All}
use Rattle.std.specs.List.{list_any}
use Rattle.job_sets.specs.Subset.{is_member}
use Rattle.job_model.specs.Table.{successors}
use Rattle.sag_step.proofs.Successors.{successors-below, not_all}
use Rattle.sag_step.proofs.tracking.is_tracked.Goals as goal

pub contains_all-requires : goal.contains_all-requires
contains_all-requires c =
    let n : ℕ = length c.args.table.now.jobs in
    let below : All (λ k. k < c.args.set.now.size) (successors c.args.table.now c.args.job) = rw c.requires (successors-below c.args.table.now c.succs.ensures.table c.args.job) in
    rw c.succs.ensures.succs below

pub returns : goal.returns
returns c =
    ap not c.contains_all.ensures ∙ not_all (λ j. is_member j c.args.set.now.members) c.succs.result.now
    ∙ ap (λ xs. list_any (λ k. not (is_member k c.args.set.now.members)) xs) c.succs.ensures.succs
