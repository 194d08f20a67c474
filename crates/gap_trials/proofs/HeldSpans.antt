-- In each legal run each job finishes within its span of the graph.
use Rattle.std.proofs.Common.{◌≡◌, ◌∙◌, ◌+◌, ℕ, zero, suc, List, [], ◌∷◌, ◌++◌, Option, Some, None, ap, arith, map, refl, sym}
use Rattle.std.specs.Prelude.{flat_map, slice_get, slice_index_or, unwrap_or}
use Rattle.std.specs.List.{enumerate_from, list_all}
use Rattle.std.proofs.lemmas.List.Elements.{filter_map-append}
use Rattle.std.proofs.lemmas.Option.{none-some}
use Rattle.sag_time.specs.Interval.{Interval}
use Rattle.job_model.specs.Table.{Table}
use Rattle.cert_text.specs.declared.line.CertLine.{CertLine}
use Rattle.cert_text.specs.declared.line.CertLine.TheVariants as line
use Rattle.sag_step.specs.State.{SystemState}
use Rattle.sag_graph.specs.declared.edge.Edge.{Edge}
use Rattle.sag_graph.specs.CertificateText.{lines_of_graph}
use Rattle.sag_graph.specs.Graph.{graph_of}
use Rattle.sag_graph.specs.Levels.{Level}
use Rattle.sag_graph.specs.Lines.{is_in_time, level_lines, line_of_edge, line_of_job, line_of_state, mark_of, no_span, numbered_spans, pairs_of}
use Rattle.graph_check.specs.Entries.{JobEntry}
use Rattle.graph_check.specs.Laws.{JobEntriesAreSpans, SpansHold}
use Rattle.graph_check.specs.Told.{job_entries, job_entry}
use Rattle.graph_check.specs.Valid.{Valid}
use Rattle.graph_valid.specs.Laws.{GraphIsValid}
use Rattle.gap_trials.specs.Laws.{GraphSpansHold}

-- ---- the job lines of a graph's certificate

no-roots : (states : List SystemState) → job_entries (map (λ s. line.Root (pairs_of s)) states) ≡ []
no-roots [] = refl
no-roots (s ∷ states) = no-roots states

no-states : (edges : List Edge) (k : ℕ) (states : List SystemState) → job_entries (map (line_of_state edges) (enumerate_from k states)) ≡ []
no-states edges k [] = refl
no-states edges k (s ∷ states) = no-states edges (k + 1) states

no-edges : (edges : List Edge) → job_entries (map line_of_edge edges) ≡ []
no-edges [] = refl
no-edges (e ∷ edges) = no-edges edges

no-level : (k : ℕ) (level : Level) → job_entries (level_lines (k, level)) ≡ []
no-level zero level = no-roots level.states
no-level (suc k) level =
    let edges : List CertLine = map line_of_edge level.edges in
    filter_map-append job_entry (map (line_of_state level.edges) (enumerate_from 0 level.states)) edges
    ∙ ap (λ (es : List JobEntry). es ++ job_entries edges) (no-states level.edges 0 level.states) ∙ no-edges level.edges

no-levels : (k : ℕ) (levels : List Level) → job_entries (flat_map level_lines (enumerate_from k levels)) ≡ []
no-levels k [] = refl
no-levels k (l ∷ levels) =
    let later : List CertLine = flat_map level_lines (enumerate_from (k + 1) levels) in
    filter_map-append job_entry (level_lines (k, l)) later ∙ ap (λ (es : List JobEntry). es ++ job_entries later) (no-level k l) ∙ no-levels (k + 1) levels

-- what the line of a job tells
abbrev told : Table → ℕ × Interval → JobEntry
told table s = record { span = s.1; mark = mark_of (is_in_time table s) }

each-job : (table : Table) (spans : List (ℕ × Interval)) → job_entries (map (line_of_job table) spans) ≡ map (told table) spans
each-job table [] = refl
each-job table (s ∷ spans) = ap (λ (es : List JobEntry). told table s ∷ es) (each-job table spans)

append-nothing : (es : List JobEntry) → es ++ [] ≡ es
append-nothing [] = refl
append-nothing (e ∷ es) = ap (λ (xs : List JobEntry). e ∷ xs) (append-nothing es)

graph-entries : (table : Table) (m : ℕ) → job_entries (lines_of_graph table m) ≡ map (told table) (numbered_spans (graph_of table m).spans)
graph-entries table m =
    let spans = numbered_spans (graph_of table m).spans in
    let levels : List CertLine = flat_map level_lines (enumerate_from 0 (graph_of table m).levels) in
    let jobs : List CertLine = map (line_of_job table) spans in
    let last : List CertLine = line.Verdict (mark_of (list_all (is_in_time table) spans)) ∷ line.End ∷ [] in
    filter_map-append job_entry levels (jobs ++ last) ∙ ap (λ (es : List JobEntry). es ++ job_entries (jobs ++ last)) (no-levels 0 (graph_of table m).levels)
    ∙ filter_map-append job_entry jobs last ∙ append-nothing (job_entries jobs) ∙ each-job table spans

-- what is told of job a + j, where the first of these spans is that of job a
told-at : (table : Table) (a j : ℕ) (spans : List (Option Interval)) (span : Interval) → slice_index_or spans j None ≡ Some span →
    slice_get (map (told table) (enumerate_from a (map (λ (s : Option Interval). unwrap_or s no_span) spans))) j ≡ Some (told table (a + j, span))
told-at table a j [] span is = absurd (none-some span is)
told-at table a zero (s ∷ spans) span is =
    let number : a ≡ a + 0 = omega arith in
    ap (λ (o : Option Interval). Some (told table (a, unwrap_or o no_span))) is ∙ ap (λ n. Some (told table (n, span))) number
told-at table a (suc j) (s ∷ spans) span is =
    let number : a + 1 + j ≡ a + suc j = omega arith in
    told-at table (a + 1) j spans span is ∙ ap (λ n. Some (told table (n, span))) number

pub graph_spans_hold : GraphIsValid → JobEntriesAreSpans → SpansHold → GraphSpansHold
graph_spans_hold valid entries hold table m j span is_table some is =
    let v : Valid table m (lines_of_graph table m) = valid table m is_table some in
    let spans : v.certificate.spans ≡ map (told table) (numbered_spans (graph_of table m).spans) =
    sym (entries v.certificate) ∙ ap job_entries (sym v.in_order) ∙ graph-entries table m in
    let number : 0 + j ≡ j = omega arith in
    let at : slice_get v.certificate.spans j ≡ Some (told table (j, span)) =
    ap (λ (es : List JobEntry). slice_get es j) spans ∙ told-at table 0 j (graph_of table m).spans span is ∙ ap (λ n. Some (told table (n, span))) number in
    (hold table m v.certificate is_table v.keeps).within j (told table (j, span)) at
