use Rattle.std.proofs.Common.{◌≡◌, ◌++◌, ap, ◌∙◌}
use Rattle.sag_graph.specs.Lines.{head_lines}
use Rattle.graph_builder.specs.Standing.{Standing}
use Rattle.graph_builder.specs.Writing.{text_of}
use Rattle.graph_builder.proofs.FillLemmas.{on-ok}
use Rattle.graph_builder.proofs.level_builder.LevelBuilder.write_head.Goals as goal

pub returns-clause-ok : goal.returns-clause-ok
unfolding text_of
returns-clause-ok c =
    on-ok c.write_head.result (λ e. e ∙ ap (λ (t : Standing). c.args.into.now.items ++ text_of (head_lines t.table t.cores)) c.self.view_is) c.write_head.ensures.ok
