-- The certificate of a graph tells its spans.
--     JobLinesTellSpans      each job's line has the ends of its span
use Rattle.std.specs.Prelude.{◌≡◌, ℕ, Some, None, slice_index_or, Contains}
use Rattle.job_model.specs.Table.{Table}
use Rattle.sag_time.specs.Interval.{Interval}
use Rattle.sag_graph.specs.Graph.{graph_of}
use Rattle.sag_graph.specs.Lines.{line_of_job}
use Rattle.sag_graph.specs.CertificateText.{lines_of_graph}

-- A job's line in the certificate of the graph of a table has the ends of the job's span.
abbrev pub JobLinesTellSpans : Type 0
JobLinesTellSpans =
    (table : Table) (m j : ℕ) (span : Interval) → slice_index_or (graph_of table m).spans j None ≡ Some span →
    Contains (lines_of_graph table m) (line_of_job table (j, span))
