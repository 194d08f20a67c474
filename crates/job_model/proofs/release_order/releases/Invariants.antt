use Rattle.std.proofs.Common.{◌≡◌, map}
use Rattle.lists.specs.Numbers.{numbers_below}
use Rattle.job_model.specs.Table.{job_at, table_of}
use Rattle.job_model.proofs.release_order.releases.Given as goal

-- the jobs so far are there
abbrev pub invariant-loop-i : goal.invariant-loop-i
invariant-loop-i l = l.order.items ≡ map (λ j. ((job_at (table_of l.jobs) j).rmin, j)) (numbers_below l.i)
