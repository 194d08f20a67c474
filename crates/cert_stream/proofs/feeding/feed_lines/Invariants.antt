use Rattle.std.proofs.Common.{◌≡◌, ◌+◌, ◌≤◌, None, length}
use Rattle.cert_text.specs.Reader.{count_of_lines}
use Rattle.cert_stream.specs.Lines.{AfterBytes}
use Rattle.cert_stream.proofs.TakenLines.{TookFront}
use Rattle.cert_stream.proofs.feeding.feed_lines.Given as goal

abbrev pub invariant-loop-rest : goal.invariant-loop-rest
invariant-loop-rest g l =
    let takes = g.T.TakeLine.takes in
    record {
      version : l.reader.grammar ≡ l.fn.reader.grammar;
      none : l.reader.waiting ≡ None;
      lines : count_of_lines l.reader.held + length l.rest ≤ count_of_lines l.fn.reader.held + length l.piece;
      count : g.T.TakeLine.count l.taker + length l.rest ≤ g.T.TakeLine.count l.fn.taker + length l.piece;
      read : TookFront l.piece l.rest (λ start bytes. AfterBytes g.T.TakeLine.grammar bytes l.fn.reader (λ lines. takes start lines l.fn.taker))
          (λ start bytes. AfterBytes g.T.TakeLine.grammar bytes l.reader (λ lines. takes start lines l.taker));
    }

abbrev pub decreases-loop-rest : goal.decreases-loop-rest
decreases-loop-rest g l = length l.rest
