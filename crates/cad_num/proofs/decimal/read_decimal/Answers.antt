-- The sign, the magnitude and the range.
use Rattle.std.proofs.Common.{cond, Some, None, ap, sym, ◌∙◌, option_map}
use Rattle.cad_syntax.specs.Kinds.{in_range, signed}
use Rattle.cad_num.specs.Decimal.{magnitude_of, within_128_bits}
use Rattle.cad_num.specs.Numbers.{value_of}
use Rattle.cad_num.proofs.ReadTexts.{read_of-none, read_of-new, new_value}
use Rattle.cad_num.proofs.decimal.read_decimal.Goals as goal

pub returns-in_err-magnitude-clause-value : goal.returns-in_err-magnitude-clause-value
returns-in_err-magnitude-clause-value c =
    let magnitude = ap (λ bs. within_128_bits (magnitude_of c.args.kind bs)) (sym c.split_sign-negative.ensures.rest) ∙ sym c.read_magnitude.ensures ∙ c.in_err-magnitude.was in
    ap (option_map value_of) c.from_residual.ensures ∙ sym (read_of-none c.args.kind c.args.text.now magnitude)

pub returns-clause-value : goal.returns-clause-value
returns-clause-value c =
    let magnitude = ap (λ bs. within_128_bits (magnitude_of c.args.kind bs)) (sym c.split_sign-negative.ensures.rest) ∙ sym c.read_magnitude.ensures ∙ c.in_ok-magnitude.was in
    let read = read_of-new c.args.kind c.args.text.now c.in_ok-magnitude.magnitude magnitude in
    let new = new_value c.args.kind c.split_sign-negative.result.0 c.in_ok-magnitude.magnitude c.new.result c.new.ensures.some c.new.ensures.negative c.new.ensures.magnitude in
    new ∙ ap (λ b. cond (in_range c.args.kind b c.in_ok-magnitude.magnitude) (Some (signed b c.in_ok-magnitude.magnitude)) None) c.split_sign-negative.ensures.sign ∙ sym read
