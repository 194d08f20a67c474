use Rattle.std.proofs.Common.{◌∙◌, ◌++◌, ap}
use Rattle.std.proofs.lemmas.Result.{on_ok_weaker}
use Rattle.cert_text.specs.Grammar.{second_version}
use Rattle.cert_text.specs.Spelling.{line_text}
use Rattle.cert_convert.proofs.ConvertedLemmas.{converts_line}
use Rattle.cert_convert.proofs.converted_lines.ConvertedLinesTakeLine.take_line.Goals as goal

pub write_line-requires : goal.write_line-requires
write_line-requires c = (c.old_lines_fit.ensures c.args.line c.requires.fits).0

pub returns-clause-takes : goal.returns-clause-takes
returns-clause-takes c =
    on_ok_weaker c.write_line.result (λ ok start lines before.
    converts_line start c.args.self.now c.write_line.new.into.items lines c.args.line before (ok ∙ ap (λ t. t ++ line_text second_version c.args.line) c.self.view_is)) c.write_line.ensures.ok
