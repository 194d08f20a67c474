use Rattle.std.proofs.Common.{◌≡◌, ◌*◌}
use Rattle.rand_pcg.specs.Lcg.{advance}
use Rattle.rand_pcg.specs.Pcg.{multiplier_64}
use Rattle.workload_gen.specs.Workload.{generator_of, workload_jobs}
use Rattle.workload_gen.proofs.workload.jobs_of.Given as goal

-- the jobs so far, and the generator after their words
abbrev pub invariant-loop-i : goal.invariant-loop-i
invariant-loop-i l = (l.jobs.items ≡ workload_jobs l.number l.i) × (l.generator ≡ advance 64 multiplier_64 (5 * l.i) (generator_of l.number))
