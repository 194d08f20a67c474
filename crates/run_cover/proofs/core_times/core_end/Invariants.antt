use Rattle.std.proofs.Common.{◌≡◌, ◌&&◌, map, filter}
use Rattle.std.specs.Prelude.{◌==◌}
use Rattle.job_sets.specs.Subset.{is_member}
use Rattle.lists.specs.Numbers.{greatest, numbers_below}
use Rattle.run_meaning.specs.Ready.{core_of, finish_of}
use Rattle.run_cover.proofs.core_times.core_end.Given as goal

abbrev pub invariant-loop-no : goal.invariant-loop-no
invariant-loop-no l = l.end ≡ greatest (map (finish_of l.scenario l.schedule) (filter (λ k. core_of l.schedule k == l.core && is_member k l.set.members) (numbers_below l.no)))
