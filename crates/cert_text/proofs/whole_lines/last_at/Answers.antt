use Rattle.std.proofs.Common.{arith, length-append, ◌∷◌, []}
use Rattle.cert_text.proofs.LinesAtOnce.{last_on, last_end}
use Rattle.cert_text.proofs.whole_lines.last_at.Goals as goal

pub returns-then-pass_byte-clause-reads : goal.returns-then-pass_byte-clause-reads
returns-then-pass_byte-clause-reads c =
    let passed = c.pass_byte.ensures.passed c.if-pass_byte.true in
    rw passed.1 (last_end c.args.grammar c.args.piece.now c.args.at.now c.loop-turn.at c.loop-turn.last c.loop-turn.invariant.2 passed.0 passed.2)

pub loop-turn-preserved : goal.loop-turn-preserved
loop-turn-preserved c =
    let left = c.pass_byte.ensures.left c.if-pass_byte.false in
    let passed = rw left at c.pass_byte-in-loop-turn.ensures.passed c.if-not-pass_byte.false in
    let reads = rw passed.1 at c.in_ok-number.ensures.reads in (
      c.in_ok-number.ensures.within,
      rw c.in-Ok.ensures.ok (omega (arith, c.loop-turn.invariant.1, length-append c.loop-turn.last (c.in_ok-number.number ∷ []))),
      rw c.in-Ok.ensures.ok
          (last_on c.args.grammar c.args.piece.now c.args.at.now c.loop-turn.at c.number_at.new.at c.in_ok-number.number c.loop-turn.last
          (omega (arith, c.loop-turn-test.true, c.loop-turn.invariant.1)) c.loop-turn.invariant.2 passed.0 passed.2 reads),
    )
