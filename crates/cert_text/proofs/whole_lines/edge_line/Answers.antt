use Rattle.std.proofs.Common.{codes}
use Rattle.cert_text.proofs.LinesAtOnce.{some_taken, edge_whole, begins}
use Rattle.cert_text.proofs.whole_lines.edge_line.Goals as goal

pub returns : goal.returns
returns c = λ g.
    let led = edge_whole g c.args.piece.now c.field_at.new.at c.field_at-2.new.at c.field_at-3.new.at c.field_at-4.new.at c.field_at-5.new.at
    c.in_ok-from.from c.in_ok-job.job c.in_ok-est.est c.in_ok-lst.lst c.in_ok-to.to
    (begins (codes "edge ") c.args.piece.now c.starts_with.result c.starts_with.ensures.value c.if-not-starts_with.false)
    c.in_ok-from.ensures.reads c.in_ok-job.ensures.reads c.in_ok-est.ensures.reads c.in_ok-lst.ensures.reads c.in_ok-to.ensures.reads in
    (some_taken g c.args.piece.now c.field_at-5.new.at _ led, c.in_ok-to.ensures.within, led)
