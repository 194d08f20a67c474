-- The laws, in the words of the graph.
use Rattle.std.proofs.Common.{◌^◌, ◌≤◌, List, length, sym, ap, ◌∙◌, subst}
use Rattle.std.specs.Prelude.{is_some}
use Rattle.std.specs.List.{flat_map}
use Rattle.cert_text.specs.declared.line.CertLine.{CertLine}
use Rattle.cert_text.specs.Grammar.{second_version}
use Rattle.cert_text.specs.Spelling.{line_text}
use Rattle.cert_text.specs.Readable.{Readable}
use Rattle.graph_check.specs.Valid.{Valid}
use Rattle.sag_graph.specs.declared.TheConstants.{MOST_BUDGET}
use Rattle.sag_graph.specs.Spans as built
use Rattle.graph_valid.specs.Laws as law
use Rattle.graph_valid.proofs.FromRootLaws as walk
use Rattle.graph_valid.proofs.SameLevels.{edges_are}
use Rattle.graph_valid.proofs.SameLines.{span_same, lines_same}
use Rattle.graph_valid.proofs.SameBudget.{not_over}

pub graph_is_valid : walk.GraphIsValid → law.GraphIsValid
graph_is_valid valid table m is_table some = subst (λ (ls : List CertLine). Valid table m ls) (sym (lines_same table m)) (valid table m is_table some)

pub graph_is_readable : walk.GraphIsReadable → law.GraphIsReadable
graph_is_readable readable table m budget is_table some few small none =
    subst (λ (ls : List CertLine). Readable second_version (flat_map (line_text second_version) ls) ls) (sym (lines_same table m)) (readable table m is_table some few (not_over table m MOST_BUDGET budget small none))

pub graph_is_short : walk.GraphIsShort → law.GraphIsShort
graph_is_short short table m budget is_table some few small none =
    subst (λ (ls : List CertLine). length (flat_map (line_text second_version) ls) ≤ 2 ^ 40) (sym (lines_same table m)) (short table m is_table some few (not_over table m MOST_BUDGET budget small none))

pub each_job_has_edge : walk.EachJobHasEdge → law.EachJobHasEdge
each_job_has_edge each table m j is_table some below =
    ap is_some (ap (λ es. built.span_of table es j) (edges_are table m (length table.jobs))) ∙ ap is_some (span_same table _ j) ∙ each table m j is_table some below
