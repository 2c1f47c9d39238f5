-- Up to eight decimals are a number below 10^8.
use Rattle.std.proofs.Common.{◌≡◌, ◌*◌, ◌-◌, ◌^◌, length, sym, ◌∙◌, arith}
use Rattle.std.proofs.lemmas.Grind.{common_steps}
use Rattle.std.specs.Str.Parse.{digits_value}
use Rattle.cad_num.proofs.ReadTexts.{none-short, some-whole, value-short}
use Rattle.cad_num.proofs.decimal.read_fixed.Goals as goal

pub returns-in_err-fraction : goal.returns-in_err-fraction
returns-in_err-fraction c =
    let decimals = c.in_ok-whole.decimals.now in
    let off = none-short decimals (omega arith) (sym c.read_whole-2.ensures ∙ c.in_err-fraction.was) in
    grind (arith, common_steps)

pub overflow_mul-fraction : goal.overflow_mul-fraction
overflow_mul-fraction c =
    let decimals = c.in_ok-whole.decimals.now in
    let digits = some-whole decimals c.in_ok-fraction.field-0 (sym c.read_whole-2.ensures ∙ c.in_ok-fraction.was) in
    let small = value-short decimals digits.0 (omega arith) in
    let parts : c.in_ok-fraction.field-0 * c.pow.result ≡ digits_value 10 decimals * 10 ^ (8 - length decimals) = cc in
    omega (arith, small, parts)
