use Rattle.std.proofs.Common.{◌≡◌, ◌<◌, length, get_or, arith, ◌∙◌}
use Rattle.std.specs.Char.{digit_value}
use Rattle.cad_syntax.proofs.Hex.{small_more, fits_more, all_digits_more, number_more}
use Rattle.cad_syntax.proofs.address.hex_number.Goals as goal

pub overflow_mul-number : goal.overflow_mul-number
overflow_mul-number c = omega (arith, fits_more c.loop-byte.number c.loop-byte.byte-index 0 c.loop-byte.invariant.small (omega arith) (omega arith))

pub overflow_add-number : goal.overflow_add-number
overflow_add-number c =
    let is_digit = c.in_ok-digit.ensures.value in
    omega (arith, fits_more c.loop-byte.number c.loop-byte.byte-index c.from.result c.loop-byte.invariant.small (omega arith) (omega (arith, is_digit.0, is_digit.1)))

pub loop-byte-preserved : goal.loop-byte-preserved
loop-byte-preserved c =
    let i = c.loop-byte.byte-index in
    let digits = c.args.digits.now in
    let is_digit = c.in_ok-digit.ensures.value in
    let below : i < length digits = omega arith in
    let value : c.from.result ≡ digit_value (get_or digits i 0) = c.from.ensures ∙ is_digit.1 in
    record {
      all_digits = all_digits_more digits i below c.loop-byte.invariant.all_digits is_digit.0;
      number_is = number_more digits i c.loop-byte.number c.from.result below c.loop-byte.invariant.number_is value;
      small = small_more c.loop-byte.number i c.from.result c.loop-byte.invariant.small (omega (arith, is_digit.0, value));
    }
