use Rattle.std.proofs.Common.{◌≡◌, ◌++◌, ap, append-nil, sym, ◌∙◌}
use Rattle.cert_text.specs.Grammar.{second_version}
use Rattle.cert_text.specs.Spelling.{line_text}
use Rattle.graph_builder.specs.Writing.{text_of}
use Rattle.graph_builder.proofs.FillLemmas.{on-ok}
use Rattle.graph_builder.proofs.writing.append_line.Goals as goal

pub returns-clause-ok : goal.returns-clause-ok
unfolding text_of
returns-clause-ok c =
    on-ok c.write_line.result (λ e. e ∙ ap (λ t. c.args.into.now.items ++ t) (sym (append-nil (line_text second_version c.args.line.now)))) c.write_line.ensures.ok
