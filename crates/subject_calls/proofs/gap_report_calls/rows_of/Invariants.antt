use Rattle.std.proofs.Common.{◌≡◌}
use Rattle.subject_calls.proofs.gap_report_calls.rows_of.Given as goal

-- the trials so far were taken
abbrev pub invariant-loop-k : goal.invariant-loop-k
invariant-loop-k l = record {
  table : l.gap.table ≡ l.table;
  taken : l.gap.taken ≡ l.k;
}
