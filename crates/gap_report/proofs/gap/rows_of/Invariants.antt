use Rattle.std.proofs.Common.{◌≡◌, map}
use Rattle.std.specs.Prelude.{slice_index_or}
use Rattle.std.specs.List.{range_with_len}
use Rattle.job_model.specs.Table.{job_at}
use Rattle.gap_report.specs.GapRows.{gap_row, no_finish_span, no_inner_ends}
use Rattle.gap_report.proofs.gap.rows_of.Given as goal

-- the rows of the jobs so far
abbrev pub invariant-loop-no : goal.invariant-loop-no
invariant-loop-no l =
    l.rows.items ≡ map (λ j. gap_row (job_at l.table j) (slice_index_or l.ends j no_inner_ends) (slice_index_or l.spans j no_finish_span)) (range_with_len 0 l.no)
