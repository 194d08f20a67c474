-- Job-level fixed priority, with its rule for ties.
--     urgency_cmp a b       by priority, then by task, then by job: `Less` is the more urgent
--     is_more_urgent a b    whether a is more urgent than b
use Rattle.std.specs.Prelude.{Bool}
use Rattle.std.specs.declared.cmp.Ordering.{Ordering}
use Rattle.std.specs.Ordering.{nat_cmp, then_cmp, on, is_lt}
use Rattle.std.specs.Cmp.{IsTotalOrder, then_total, on_total, nat_cmp_total}
use Rattle.job_model.specs.declared.job_row.Job.{Job}

-- By priority, then by task, then by job: of two jobs the lesser is the more urgent.
abbrev pub urgency_cmp : Job → Job → Ordering
urgency_cmp = then_cmp (on (λ a. a.priority) nat_cmp) (then_cmp (on (λ a. a.task) nat_cmp) (on (λ a. a.job) nat_cmp))

abbrev pub is_more_urgent : Job → Job → Bool
is_more_urgent a b = is_lt (urgency_cmp a b)

pub urgency_total : IsTotalOrder urgency_cmp
urgency_total = then_total (on_total (λ a. a.priority) nat_cmp_total) (then_total (on_total (λ a. a.task) nat_cmp_total) (on_total (λ a. a.job) nat_cmp_total))
