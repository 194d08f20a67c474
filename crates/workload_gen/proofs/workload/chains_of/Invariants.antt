use Rattle.std.proofs.Common.{◌≡◌, ◌*◌, ◌+◌, map}
use Rattle.lists.specs.Numbers.{numbers_below}
use Rattle.workload_gen.proofs.workload.chains_of.Given as goal

-- the edges of the groups so far
abbrev pub invariant-loop-group : goal.invariant-loop-group
invariant-loop-group l = l.edges.items ≡ map (λ group. (6 * group, 6 * group + 5)) (numbers_below l.group)
