use Rattle.std.proofs.Common.{◌≤◌, ◌<◌, ◌+◌, ◌*◌, ◌^◌, ℕ, arith, get_or, rules}
use Rattle.std.proofs.lemmas.Grind.{pow_more}
use Rattle.std.proofs.Math.Nat.{pow-le-pow_right}
use Rattle.std.proofs.lemmas.List.Elements.{All-more}
use Rattle.std.specs.Int.{IsInRange}
use Rattle.csv_numbers.proofs.FieldLemmas.{value-more}
use Rattle.csv_numbers.proofs.field.read_short.Goals as goal

-- one more digit leaves the value below the next power of 10, and that below 64 bits
one-more : (value digit i : ℕ) → value < 10 ^ i → digit < 10 → value * 10 + digit < 10 ^ (i + 1)
one-more value digit i below small = omega (arith, below, small, pow_more 10 i)

within : (value digit i : ℕ) → value < 10 ^ i → digit < 10 → i < 19 → value * 10 + digit < 2 ^ 64
within value digit i below small less =
    let power : 10 ^ (i + 1) ≤ 10 ^ 19 = pow-le-pow_right {n = 10} (omega arith) {i = i + 1} {j = 19} (omega (arith, less)) in
    omega (arith, one-more value digit i below small, power)

pub overflow_mul-value : goal.overflow_mul-value
overflow_mul-value c =
    let i = c.loop-byte.byte-index in
    let all = within c.loop-byte.value 0 i c.loop-byte.invariant.below (omega arith) (omega (arith, c.loop-byte-test.true, c.requires)) in
    omega (arith, all)

pub overflow_add-value : goal.overflow_add-value
overflow_add-value c =
    let i = c.loop-byte.byte-index in
    let digit : IsInRange 48 57 (get_or c.args.text.now i 0) = search rules in
    let all = within c.loop-byte.value c.from.result i c.loop-byte.invariant.below (omega (arith, c.from.ensures, digit)) (omega (arith, c.loop-byte-test.true, c.requires)) in
    omega (arith, all)

pub loop-byte-preserved : goal.loop-byte-preserved
loop-byte-preserved c =
    let text = c.args.text.now in
    let i = c.loop-byte.byte-index in
    let digit : IsInRange 48 57 (get_or text i 0) = search rules in
    let more = value-more text i c.loop-byte-test.true digit in
    record {
      digits = All-more (IsInRange 48 57) text i 0 c.loop-byte-test.true c.loop-byte.invariant.digits digit;
      value = omega (arith, more, c.from.ensures, c.loop-byte.invariant.value);
      below = one-more c.loop-byte.value c.from.result i c.loop-byte.invariant.below (omega (arith, c.from.ensures, digit));
    }
