use Rattle.std.proofs.Common.{◌≡◌, ◌++◌, drop, filter}
use Rattle.std.specs.Map.{keys_of}
use Rattle.job_sets.specs.Subset.{is_member}
use Rattle.graph_builder.proofs.state_line.last_of.Given as goal

-- the last jobs so far, and those among the ends that are left, are all
abbrev pub invariant-loop-place : goal.invariant-loop-place
invariant-loop-place l =
    l.list ++ filter (λ j. is_member j l.last.members) (keys_of (drop l.place l.ends.items)) ≡ filter (λ j. is_member j l.last.members) (keys_of l.ends.items)
