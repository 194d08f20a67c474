use Rattle.std.proofs.Common.{arith, length-append, ◌∷◌, []}
use Rattle.cert_text.proofs.LinesAtOnce.{ends_begin, ends_on, ends_end}
use Rattle.cert_text.proofs.whole_lines.ends_at.Goals as goal

pub loop-turn-init : goal.loop-turn-init
loop-turn-init c =
    let passed = c.pass_byte.ensures.passed c.if-not-pass_byte.false in (
      c.pass_byte.ensures.within,
      rw c.new-ends.ensures (omega arith),
      rw (passed.1, c.new-ends.ensures) (ends_begin c.args.grammar c.args.piece.now c.args.at.now c.requires.has passed.0 passed.2),
    )

pub returns-then-pass_byte-clause-reads : goal.returns-then-pass_byte-clause-reads
returns-then-pass_byte-clause-reads c =
    let passed = c.pass_byte-in-loop-turn.ensures.passed c.if-pass_byte.true in
    rw passed.1 (ends_end c.args.grammar c.args.piece.now c.args.at.now c.loop-turn.at c.loop-turn.ends c.loop-turn.invariant.2 passed.0 passed.2)

pub loop-turn-preserved : goal.loop-turn-preserved
loop-turn-preserved c =
    let left = c.pass_byte-in-loop-turn.ensures.left c.if-pass_byte.false in
    let first = rw left at c.in_ok-job.ensures.reads in (
      c.in_ok-hi.ensures.within,
      rw c.in-Ok.ensures.ok (omega (arith, c.loop-turn.invariant.1, length-append c.loop-turn.ends (c.end_of.result ∷ []))),
      rw (c.in-Ok.ensures.ok, c.end_of.ensures)
          (ends_on c.args.grammar c.args.piece.now c.args.at.now c.loop-turn.at c.field_at.new.at c.field_at-in-loop-turn.new.at c.field_at-in-loop-turn-2.new.at
          c.in_ok-job.job c.in_ok-lo.lo c.in_ok-hi.hi c.loop-turn.ends c.requires.has (omega (arith, c.loop-turn-test.true, c.loop-turn.invariant.1)) c.loop-turn.invariant.2
          first c.in_ok-lo.ensures.reads c.in_ok-hi.ensures.reads),
    )
