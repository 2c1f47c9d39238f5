-- The fraction is padded with zeros to eight digits.
use Rattle.std.proofs.Common.{◌%◌, ap, ◌∙◌, rules}
use Rattle.std.specs.Fmt.{styled_decimal}
use Rattle.cad_num.proofs.WriteTexts.{padded_eight}
use Rattle.cad_num.proofs.decimal.write_fixed.Goals as goal

pub returns : goal.returns
returns c =
    let fraction = c.args.magnitude % 100000000 in
    let digits = ap (λ spec. styled_decimal spec fraction) c.laid_out.ensures ∙ padded_eight fraction in
    search (rules, digits)
