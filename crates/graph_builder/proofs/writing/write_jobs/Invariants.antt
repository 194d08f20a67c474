use Rattle.std.proofs.Common.{◌≡◌, ◌++◌, drop, length, take}
use Rattle.graph_builder.specs.Writing.{job_lines, text_of}
use Rattle.graph_builder.proofs.writing.write_jobs.Given as goal

-- what is written, and the lines of the jobs that are left, are all
abbrev pub invariant-loop-j : goal.invariant-loop-j
invariant-loop-j l = record {
  lines : l.into.items ++ text_of (job_lines l.table l.j (drop l.j l.spans)) ≡ l.initial.into.items ++ text_of (job_lines l.table 0 l.spans);
  begins : take (length l.initial.into.items) l.into.items ≡ l.initial.into.items;
}
