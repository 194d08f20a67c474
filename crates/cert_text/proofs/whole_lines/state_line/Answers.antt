use Rattle.std.proofs.Common.{codes}
use Rattle.cert_text.proofs.LinesAtOnce.{some_taken, state_whole, begins}
use Rattle.cert_text.proofs.whole_lines.state_line.Goals as goal

pub returns : goal.returns
returns c =
    let g = c.args.grammar in
    let led = state_whole g c.args.piece.now c.field_at.new.at c.field_at-2.new.at c.pairs_at.new.at c.ends_at.new.at c.last_at.new.at
    c.in_ok-parent.parent c.in_ok-job.job c.in_ok-pairs.pairs c.in_ok-ends.ends c.in_ok-last.last
    (begins (codes "state ") c.args.piece.now c.starts_with.result c.starts_with.ensures.value c.if-not-starts_with.false)
    c.in_ok-parent.ensures.reads c.in_ok-job.ensures.reads c.in_ok-pairs.ensures.reads c.in_ok-ends.ensures.reads c.in_ok-last.ensures.reads in
    (some_taken g c.args.piece.now c.last_at.new.at _ led, c.in_ok-last.ensures.within, led)
