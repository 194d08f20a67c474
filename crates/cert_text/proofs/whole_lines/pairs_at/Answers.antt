use Rattle.std.proofs.Common.{arith, length-append, ◌∷◌, []}
use Rattle.cert_text.proofs.LinesAtOnce.{pairs_on, pairs_end}
use Rattle.cert_text.proofs.whole_lines.pairs_at.Goals as goal

pub returns-then-pass_byte-clause-reads : goal.returns-then-pass_byte-clause-reads
returns-then-pass_byte-clause-reads c =
    let passed = c.pass_byte.ensures.passed c.if-pass_byte.true in
    rw (passed.1, c.in-Ok.ensures.ok)
    (pairs_end c.args.grammar c.args.piece.now c.args.at.now c.loop-turn.at c.field_at.new.at c.field_at-in-loop-turn.new.at c.in_ok-lo.lo c.in_ok-hi.hi c.loop-turn.pairs
    (omega (arith, c.loop-turn-test.true, c.loop-turn.invariant.1)) c.loop-turn.invariant.2 c.in_ok-lo.ensures.reads c.in_ok-hi.ensures.reads passed.0 passed.2)

pub loop-turn-preserved : goal.loop-turn-preserved
loop-turn-preserved c = (
  c.pass_byte.ensures.within,
  rw c.in-Ok.ensures.ok (omega (arith, c.loop-turn.invariant.1, length-append c.loop-turn.pairs (record { lo = c.in_ok-lo.lo; hi = c.in_ok-hi.hi } ∷ []))),
  rw (c.pass_byte.ensures.left c.if-pass_byte.false, c.in-Ok.ensures.ok)
      (pairs_on c.args.grammar c.args.piece.now c.args.at.now c.loop-turn.at c.field_at.new.at c.field_at-in-loop-turn.new.at c.in_ok-lo.lo c.in_ok-hi.hi c.loop-turn.pairs
      (omega (arith, c.loop-turn-test.true, c.loop-turn.invariant.1)) c.loop-turn.invariant.2 c.in_ok-lo.ensures.reads c.in_ok-hi.ensures.reads),
)
