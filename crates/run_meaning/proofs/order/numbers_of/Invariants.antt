use Rattle.std.proofs.Common.{◌≡◌, map, take}
use Rattle.run_meaning.proofs.order.numbers_of.Given as goal

abbrev pub invariant-loop-job : goal.invariant-loop-job
invariant-loop-job l = l.numbers.items ≡ map (λ job. job.no) (take l.job-index l.jobs)
