use Rattle.std.proofs.Common.{◌≡◌, map, filter}
use Rattle.job_sets.specs.Subset.{is_member}
use Rattle.lists.specs.Numbers.{greatest, numbers_below}
use Rattle.run_meaning.specs.Ready.{start_of}
use Rattle.run_cover.proofs.core_times.latest_start.Given as goal

abbrev pub invariant-loop-no : goal.invariant-loop-no
invariant-loop-no l = l.start ≡ greatest (map (start_of l.schedule) (filter (λ k. is_member k l.set.members) (numbers_below l.no)))
