-- The text of the certificate of a table's graph.
--     lines_of_graph table m     its lines
--     text_of_graph table m      their bytes
use Rattle.std.specs.Prelude.{ℕ, List}
use Rattle.std.specs.List.{flat_map}
use Rattle.job_model.specs.Table.{Table}
use Rattle.cert_text.specs.declared.line.CertLine.{CertLine}
use Rattle.cert_text.specs.Grammar.{second_version}
use Rattle.cert_text.specs.Spelling.{line_text}
use Rattle.sag_graph.specs.Graph.{graph_of}
use Rattle.sag_graph.specs.Lines.{certificate_lines}

-- the lines of the certificate of a table's graph on m cores
abbrev pub lines_of_graph : Table → ℕ → List CertLine
lines_of_graph table m = certificate_lines table (graph_of table m)

-- their bytes, in the version that is written
abbrev pub text_of_graph : Table → ℕ → List ℕ
text_of_graph table m = flat_map (line_text second_version) (lines_of_graph table m)
