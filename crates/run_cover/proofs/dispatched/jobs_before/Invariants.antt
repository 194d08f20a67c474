use Rattle.std.proofs.Common.{◌≡◌, ◌≤◌}
use Rattle.std.specs.List.{count_by}
use Rattle.lists.specs.Numbers.{numbers_below}
use Rattle.run_meaning.specs.Order.{starts_earlier}
use Rattle.run_cover.proofs.dispatched.jobs_before.Given as goal

-- how many of the jobs so far come before the job
abbrev pub invariant-loop-other : goal.invariant-loop-other
invariant-loop-other l = record {
  count : l.count ≡ count_by (λ i. starts_earlier l.table l.schedule i l.job) (numbers_below l.other);
  fewer : l.count ≤ l.other;
}
