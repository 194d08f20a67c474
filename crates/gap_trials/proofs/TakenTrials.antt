-- Trials are taken one after another, and what they come to are the rows.
use Rattle.std.proofs.Common.{◌≡◌, ◌∙◌, ◌+◌, ◌<◌, ◌≤◌, ℕ, List, ap, arith, length, refl, subst, sym}
use Rattle.std.specs.Prelude.{IsSome, None, slice_index_or}
use Rattle.std.proofs.lemmas.List.FromFn.{get_or-map-range_with_len, length-map-range_with_len}
use Rattle.std.proofs.lemmas.Option.{slice_get-get_or}
use Rattle.sag_time.specs.Interval.{Interval}
use Rattle.job_model.specs.Table.{IsTable, Table, job_at}
use Rattle.sag_graph.specs.Graph.{graph_of}
use Rattle.sag_graph.specs.Spans.{edges_up_to, span_of, spans_by}
use Rattle.graph_valid.specs.Laws.{EachJobHasEdge}
use Rattle.gap_report.specs.declared.gap_row.GapRow.{GapRow}
use Rattle.gap_report.specs.declared.inner_ends.InnerEnds.{InnerEnds}
use Rattle.gap_report.specs.GapRows.{gap_row, gap_rows, no_finish_span, no_inner_ends}
use Rattle.gap_report.specs.InnerBounds.{InnerBounds, TakesScenario, no_bounds}
use Rattle.gap_report.specs.InnerEnds.{AreInnerEnds, HoldInnerEnds}
use Rattle.gap_report.specs.Laws.{TakesKeepEnds}
use Rattle.gap_report.specs.Trials.{last_trial}
use Rattle.gap_trials.specs.GapMeaning.{AreGapRows, IsGapRow}
use Rattle.gap_trials.specs.Steps.{AreSpans, HasTaken}
use Rattle.gap_trials.specs.Trials.{trial_of}
use Rattle.gap_trials.proofs.ListFacts.{numbered-item}

-- each job has a span
pub has_span : EachJobHasEdge → (table : Table) (m j : ℕ) → IsTable table → 1 ≤ m → j < length table.jobs → IsSome (slice_index_or (graph_of table m).spans j None)
unfolding spans_by
has_span has_edge table m j is_table some below =
    let count = length table.jobs in
    subst IsSome (sym (get_or-map-range_with_len (span_of table (edges_up_to table m count)) 0 count j j None below (omega arith))) (has_edge table m j is_table some below)

pub span_count : (table : Table) (m : ℕ) → length (graph_of table m).spans ≡ length table.jobs
unfolding spans_by
span_count table m = length-map-range_with_len (span_of table (edges_up_to table m (length table.jobs))) 0 (length table.jobs)

-- no trial was taken
pub none_taken : (table : Table) (m : ℕ) (bounds : InnerBounds) → bounds ≡ no_bounds table m → HasTaken table m 0 bounds
none_taken table m bounds is =
    let none : HasTaken table m 0 (no_bounds table m) = record {
      table_is = refl;
      cores_are = refl;
      count = refl;
      ends = record {
        before = λ zero_is. refl;
        after = λ some. absurd (omega (arith, some));
        each = λ j below some. absurd (omega (arith, some));
      };
    } in
    subst (HasTaken table m 0) (sym is) none

-- one more was taken
pub one_more : TakesKeepEnds → (table : Table) (m k : ℕ) (old new : InnerBounds) (scenario : List (ℕ × ℕ)) → HasTaken table m k old → scenario ≡ trial_of table m k →
    TakesScenario old scenario new → HasTaken table m (k + 1) new
one_more keep table m k old new scenario so_far is takes =
    let trial : scenario ≡ trial_of table m old.taken = is ∙ ap (trial_of table m) (sym so_far.count) in
    record {
      table_is = ap (λ (b : InnerBounds). b.table) takes.adds ∙ so_far.table_is;
      cores_are = ap (λ (b : InnerBounds). b.cores) takes.adds ∙ so_far.cores_are;
      count = ap (λ (b : InnerBounds). b.taken) takes.adds ∙ ap (λ n. n + 1) so_far.count;
      ends = keep (trial_of table m) old new so_far.ends (subst (λ (s : List (ℕ × ℕ)). TakesScenario old s new) trial takes);
    }

-- the rows of all trials
module _ (table : Table) (m : ℕ) (ends : List InnerEnds) (spans : List Interval) (are : AreSpans table m spans) (after : length ends ≡ length table.jobs)
    (hold : (j : ℕ) → j < length table.jobs → AreInnerEnds table m (trial_of table m) (last_trial table + 1) j (slice_index_or ends j no_inner_ends)) where
  abbrev row_at : ℕ → GapRow
  row_at j = gap_row (job_at table j) (slice_index_or ends j no_inner_ends) (slice_index_or spans j no_finish_span)

  is_row : (j : ℕ) → j < length table.jobs → IsGapRow table m j (row_at j)
  is_row j below = record {
    task = refl;
    job = refl;
    span = are.each j (slice_index_or spans j no_finish_span) (slice_get-get_or spans j no_finish_span (omega (arith, below, are.one_each)));
    ends = hold j below;
  }

  rows_of_ends : AreGapRows table m (gap_rows table ends spans)
  rows_of_ends = record {
    one_each = length-map-range_with_len row_at 0 (length table.jobs);
    each = λ j row at.
        let here = numbered-item row_at (length table.jobs) j row at in
        subst (IsGapRow table m j) (sym here.1) (is_row j here.0);
  }

pub rows_of_all : (table : Table) (m : ℕ) (bounds : InnerBounds) (spans : List Interval) → AreSpans table m spans → HasTaken table m (last_trial table + 1) bounds →
    AreGapRows table m (gap_rows bounds.table bounds.ends spans)
rows_of_all table m bounds spans are taken =
    let count = last_trial table + 1 in
    let some : 0 < bounds.taken = omega (arith, taken.count) in
    let held : HoldInnerEnds (trial_of table m) bounds = taken.ends in
    let long : length bounds.ends ≡ length table.jobs = held.after some ∙ ap (λ (t : Table). length t.jobs) taken.table_is in
    let hold : (j : ℕ) → j < length table.jobs → AreInnerEnds table m (trial_of table m) count j (slice_index_or bounds.ends j no_inner_ends) = λ j below.
    let of_bounds : j < length bounds.table.jobs = omega (arith, below, ap (λ (t : Table). length t.jobs) taken.table_is) in
    subst (λ n. AreInnerEnds table m (trial_of table m) n j (slice_index_or bounds.ends j no_inner_ends)) taken.count
    (subst (λ c. AreInnerEnds table c (trial_of table m) bounds.taken j (slice_index_or bounds.ends j no_inner_ends)) taken.cores_are
    (subst (λ (t : Table). AreInnerEnds t bounds.cores (trial_of table m) bounds.taken j (slice_index_or bounds.ends j no_inner_ends)) taken.table_is (held.each j of_bounds some))) in
    subst (λ (t : Table). AreGapRows table m (gap_rows t bounds.ends spans)) (sym taken.table_is) (rows_of_ends table m bounds.ends spans are long hold)
