use Rattle.std.proofs.Common.{◌≡◌, ◌∙◌, ap, subst}
use Rattle.job_model.specs.Table.{Table}
use Rattle.sag_graph.specs.Budget.{spent}
use Rattle.what_if.specs.Bounded.{BoundedTable}
use Rattle.what_if.specs.Edits.{with_edits}
use Rattle.sag_engine.specs.Analyse.{analysis_reply}
use Rattle.sag_engine.specs.RunEnds.{Prints}
use Rattle.sag_engine.proofs.WhatIfLemmas.{edited_printed}
use Rattle.sag_engine.proofs.command_whatif.print_edited.Goals as goal

pub returns-in-Ok : goal.returns-in-Ok
returns-in-Ok g c =
    let is : c.table.result.now ≡ with_edits c.args.table c.args.edits.now = c.table.ensures.table ∙ ap (λ (b : BoundedTable). b.table) c.in-Ok.ensures.edited in
    edited_printed c.args.table c.args.edits.now c.args.cores c.args.budget c.in-Ok.ensures.within
    (subst (λ (t : Table). Prints (analysis_reply t c.args.cores (spent t c.args.cores c.args.budget)) (g.O.Sink.seen c.args.out.now) (g.O.Sink.seen c.print_graph.new.out) c.print_graph.result) is c.print_graph.ensures)
