use Rattle.std.proofs.Common.{◌≤◌, ◌+◌, ◌^◌, arith, rules}
use Rattle.csv_numbers.specs.Fields.{value_of}
use Rattle.csv_numbers.proofs.FieldLemmas.{value-more, value-least}
use Rattle.csv_numbers.proofs.field.value.Goals as goal

pub returns-in_err-checked_mul : goal.returns-in_err-checked_mul
returns-in_err-checked_mul c =
    let more = value-more c.args.digits.now c.loop-digit.digit-index (omega arith) (search rules) in
    let least = value-least c.args.digits.now (c.loop-digit.digit-index + 1) in
    let big : 2 ^ 64 ≤ value_of c.args.digits.now = omega (arith, c.in_err-checked_mul.ensures, c.loop-digit.invariant) in
    rw c.from_residual.ensures big

pub returns-in_err-value : goal.returns-in_err-value
returns-in_err-value c =
    let more = value-more c.args.digits.now c.loop-digit.digit-index (omega arith) (search rules) in
    let least = value-least c.args.digits.now (c.loop-digit.digit-index + 1) in
    let big : 2 ^ 64 ≤ value_of c.args.digits.now = omega (arith, c.in_err-value.ensures, c.in_ok-checked_mul.ensures, c.from.ensures, c.loop-digit.invariant) in
    rw c.from_residual-in_err-value.ensures big

pub loop-digit-preserved : goal.loop-digit-preserved
loop-digit-preserved c =
    let more = value-more c.args.digits.now c.loop-digit.digit-index (omega arith) (search rules) in
    omega (arith, c.in_ok-value.ensures, c.in_ok-checked_mul.ensures, c.from.ensures, c.loop-digit.invariant)
