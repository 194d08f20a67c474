use Rattle.std.proofs.Common.{◌≡◌, map, take}
use Rattle.small_tables.specs.Tables.{job_of}
use Rattle.small_tables.proofs.build.jobs_of.Given as goal

abbrev pub invariant-loop-row : goal.invariant-loop-row
invariant-loop-row l = l.jobs.items ≡ map job_of (take l.row-index l.rows)
