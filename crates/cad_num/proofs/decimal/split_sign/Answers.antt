-- Where `strip_prefix` finds no `-`, the first byte is another.
use Rattle.std.proofs.Common.{◌≡◌, false, sym, ap, cond, drop, None, lit<}
use Rattle.std.proofs.lemmas.Bool.{and_right}
use Rattle.std.proofs.lemmas.Str.Pattern.{strip_prefix_char}
use Rattle.cad_num.specs.Decimal.{has_sign}
use Rattle.cad_num.proofs.ReadTexts.{no_sign}
use Rattle.cad_num.proofs.decimal.split_sign.Goals as goal

pub returns-in-None-clause-sign : goal.returns-in-None-clause-sign
returns-in-None-clause-sign c =
    let text = c.args.text.now in
    let plain = no_sign text (strip_prefix_char 45 text None c.in-None.ensures.cases (lit< tt)) in
    sym (and_right _ _ plain)

pub returns-in-None-clause-rest : goal.returns-in-None-clause-rest
returns-in-None-clause-rest c =
    let text = c.args.text.now in
    let plain = no_sign text (strip_prefix_char 45 text None c.in-None.ensures.cases (lit< tt)) in
    let unsigned : has_sign c.args.kind text ≡ false = and_right _ _ plain in
    sym (ap (λ b. cond b (drop 1 text) text) unsigned)
