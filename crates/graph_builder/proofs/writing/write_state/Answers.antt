use Rattle.std.proofs.Common.{◌≡◌, arith, subst, sym}
use Rattle.cert_text.specs.Grammar.{second_version}
use Rattle.cert_text.specs.Spelling.{FitsLine}
use Rattle.graph_builder.specs.Writing.{line_by, text_of}
use Rattle.graph_builder.proofs.writing.write_state.Goals as goal

pub append_line-requires : goal.append_line-requires
append_line-requires c =
    subst (FitsLine second_version) (sym c.in_ok-line.ensures) (c.requires.fits c.args.origin.parent c.args.origin.job (omega arith) (omega arith))
