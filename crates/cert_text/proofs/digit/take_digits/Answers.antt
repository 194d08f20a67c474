use Rattle.std.proofs.Common.{◌+◌, ◌-◌, ◌*◌, get_or, arith, sym, ◌∙◌}
use Rattle.cert_text.specs.declared.spot.Spot.TheVariants as spot
use Rattle.cert_text.specs.Machine.{On}
use Rattle.cert_text.proofs.Digits.{any-digit}
use Rattle.cert_text.proofs.Pieces.{one_more}
use Rattle.cert_text.proofs.digit.take_digits.Goals as goal

pub loop-byte-preserved : goal.loop-byte-preserved
loop-byte-preserved c =
    let i = c.loop-byte.byte-index in
    let v = c.loop-byte.value in
    let b = get_or c.args.bytes.now i 0 in (
      omega (arith, c.loop-byte.invariant.0),
      λ g s d p. rw c.loop-byte.invariant.0
          (one_more g s (On d (spot.Digits p c.args.number.now)) c.args.bytes.now i d (spot.Digits p v) (On d (spot.Digits p (v * 10 + (b - 48))))
          (omega (arith, c.loop-byte-test.true)) (rw c.loop-byte.invariant.0 at c.loop-byte.invariant.1 g s d p)
          (any-digit g s d p v b (sym c.is_digit_byte.ensures.same ∙ c.if-not-is_digit_byte.false) (omega (arith, c.if-value-eq0.false)) (omega (arith, c.if-value.false)))),
    )
