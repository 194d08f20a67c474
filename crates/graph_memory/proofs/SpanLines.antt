-- The lines of the jobs have the ends of their spans.
use Rattle.std.proofs.Common.{◌≡◌, ℕ, zero, suc, ◌+◌, List, [], ◌∷◌, ◌++◌, map, Option, Some, None, sym, subst, arith}
use Rattle.std.specs.Prelude.{unwrap_or, slice_index_or, Contains, flat_map}
use Rattle.std.specs.List.{enumerate_from}
use Rattle.std.proofs.lemmas.List.Elements.{Contains-append_left, Contains-append_right}
use Rattle.std.proofs.lemmas.Option.{none-some}
use Rattle.lists.proofs.Elements.{contains-first, contains-rest}
use Rattle.sag_time.specs.Interval.{Interval}
use Rattle.cert_text.specs.declared.line.CertLine.{CertLine}
use Rattle.sag_graph.specs.Graph.{graph_of}
use Rattle.sag_graph.specs.Lines.{head_lines, level_lines, line_of_job, no_span, numbered_spans, tail_lines}
use Rattle.graph_memory.specs.JobLines.{JobLinesTellSpans}

-- the lines of these spans, of which the first is of job a
abbrev lines_from : (ℕ × Interval → CertLine) → ℕ → List (Option Interval) → List CertLine
lines_from f a spans = map f (enumerate_from a (map (λ (s : Option Interval). unwrap_or s no_span) spans))

own-line : (f : ℕ × Interval → CertLine) (a k : ℕ) (spans : List (Option Interval)) (span : Interval) → slice_index_or spans k None ≡ Some span → Contains (lines_from f a spans) (f (a + k, span))
own-line f a k [] span is = absurd (none-some span is)
own-line f a zero (s ∷ spans) span is =
    let same : a ≡ a + 0 = omega arith in
    subst (λ n. Contains (lines_from f a (s ∷ spans)) (f (n, span))) same
    (subst (λ (o : Option Interval). Contains (f (a, unwrap_or o no_span) ∷ lines_from f (a + 1) spans) (f (a, span))) (sym is) (contains-first (f (a, span)) (lines_from f (a + 1) spans)))
own-line f a (suc k) (s ∷ spans) span is =
    let same : a + 1 + k ≡ a + suc k = omega arith in
    subst (λ n. Contains (lines_from f a (s ∷ spans)) (f (n, span))) same
    (contains-rest (f (a, unwrap_or s no_span)) (f (a + 1 + k, span)) (lines_from f (a + 1) spans) (own-line f (a + 1) k spans span is))

pub job_lines_tell_spans : JobLinesTellSpans
job_lines_tell_spans table m j span is =
    let spans = (graph_of table m).spans in
    let line = line_of_job table (j, span) in
    let jobs : List CertLine = map (line_of_job table) (numbered_spans spans) in
    let levels : List CertLine = flat_map level_lines (enumerate_from 0 (graph_of table m).levels) in
    let number : 0 + j ≡ j = omega arith in
    let own : Contains jobs line = subst (λ n. Contains jobs (line_of_job table (n, span))) number (own-line (line_of_job table) 0 j spans span is) in
    Contains-append_right (head_lines table m) (levels ++ tail_lines table spans) line
    (Contains-append_right levels (tail_lines table spans) line (Contains-append_left jobs _ line own))
