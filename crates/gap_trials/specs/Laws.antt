-- Laws of trials, and of the rows that they come to.
--     TrialsFit            each trial fits its table
--     OneGap               a table on some cores has one list of rows
--     GraphSpansHold       in each legal run each job finishes within its span of the graph
--     InnerEndsInSpans     the inner ends of a row lie in its span
--     NoGapOnOneCore       on one core without precedence they are its ends
use Rattle.std.specs.Prelude.{◌≡◌, ℕ, ◌≤◌, List, [], None, Some, slice_get, slice_index_or}
use Rattle.sag_time.specs.Interval.{Interval}
use Rattle.job_model.specs.Scenario.{Fits}
use Rattle.job_model.specs.Table.{IsTable, Table}
use Rattle.run_meaning.specs.Guarantees.{FinishesWithin}
use Rattle.sag_graph.specs.Graph.{graph_of}
use Rattle.gap_report.specs.declared.gap_row.GapRow.{GapRow}
use Rattle.gap_report.specs.Trials.{last_trial}
use Rattle.gap_trials.specs.GapMeaning.{AreGapRows}
use Rattle.gap_trials.specs.Trials.{trial_of}

-- Each trial fits its table.
abbrev pub TrialsFit : Type 0
TrialsFit = (table : Table) (m k : ℕ) → IsTable table → k ≤ last_trial table → Fits table (trial_of table m k)

-- A table on some cores has one list of rows.
abbrev pub OneGap : Type 0
OneGap = (table : Table) (m : ℕ) (one other : List GapRow) → IsTable table → 1 ≤ m → AreGapRows table m one → AreGapRows table m other → one ≡ other

-- In each legal run of every scenario each job finishes within its span of the graph.
abbrev pub GraphSpansHold : Type 0
GraphSpansHold =
    (table : Table) (m j : ℕ) (span : Interval) → IsTable table → 1 ≤ m → slice_index_or (graph_of table m).spans j None ≡ Some span →
    FinishesWithin table m j span.lo span.hi

-- The inner ends of a row lie in its span, in order.
abbrev pub InnerEndsInSpans : Type 0
InnerEndsInSpans =
    (table : Table) (m j : ℕ) (rows : List GapRow) (row : GapRow) → IsTable table → 1 ≤ m → AreGapRows table m rows → slice_get rows j ≡ Some row →
    (row.bcct ≤ row.inner_lo) × (row.inner_lo ≤ row.inner_hi) × (row.inner_hi ≤ row.wcct)

-- On one core without precedence they are its ends.
abbrev pub NoGapOnOneCore : Type 0
NoGapOnOneCore =
    (table : Table) (j : ℕ) (rows : List GapRow) (row : GapRow) → IsTable table → table.edges ≡ [] → AreGapRows table 1 rows → slice_get rows j ≡ Some row →
    (row.inner_lo ≡ row.bcct) × (row.inner_hi ≡ row.wcct)
