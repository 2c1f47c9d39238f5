-- Out of 128 bits, or of the kind's range, or the number itself.
use Rattle.std.proofs.Common.{◌≡◌, Ok, Err, true, false, sym, ap, ◌∙◌}
use Rattle.std.proofs.Math.Nat.{mod-eq_of_lt}
use Rattle.cad_syntax.specs.Kinds.{in_range, signed}
use Rattle.cad_num.specs.Numbers.{is_word, outcome}
use Rattle.cad_num.proofs.Outcomes.{outcome-in, outcome-out, large_out, FalseIff-large, FalseIff-small}
use Rattle.cad_num.proofs.Signs.{signed-below_zero}
use Rattle.cad_num.proofs.fit.fit.Goals as goal

pub returns-then-exact-clause-value : goal.returns-then-exact-clause-value
returns-then-exact-clause-value c z x =
    let plain : is_word c.args.kind ≡ false = cc in
    let e = outcome-out c.args.kind c.args.exact.negative x.magnitude plain (large_out _ _ _ (FalseIff-large c.args.exact.over x.magnitude x.over c.if-exact.true)) in
    ap Err c.out_of_range.ensures ∙ sym e ∙ ap (outcome c.args.kind) (sym x.integer)

pub returns-then-not-is_in_range-clause-value : goal.returns-then-not-is_in_range-clause-value
returns-then-not-is_in_range-clause-value c z x =
    let plain : is_word c.args.kind ≡ false = cc in
    let same = x.low ∙ mod-eq_of_lt (FalseIff-small c.args.exact.over x.magnitude x.over c.if-exact.false) in
    let out : in_range c.args.kind c.args.exact.negative c.args.exact.low ≡ false = sym c.is_in_range.ensures ∙ c.if-not-is_in_range.true in
    let e = outcome-out c.args.kind c.args.exact.negative c.args.exact.low plain out in
    ap Err c.out_of_range-then-not-is_in_range.ensures ∙ sym e ∙
    ap (λ m. outcome c.args.kind (signed c.args.exact.negative m)) same ∙ ap (outcome c.args.kind) (sym x.integer)

pub returns-clause-value : goal.returns-clause-value
returns-clause-value c z x =
    let plain : is_word c.args.kind ≡ false = cc in
    let same = x.low ∙ mod-eq_of_lt (FalseIff-small c.args.exact.over x.magnitude x.over c.if-exact.false) in
    let within : in_range c.args.kind c.args.exact.negative c.args.exact.low ≡ true = sym c.is_in_range.ensures ∙ c.if-not-is_in_range.false in
    let e = outcome-in c.args.kind c.args.exact.negative c.args.exact.low plain within in
    ap Ok (ap (λ b. signed b c.args.exact.low) c.is_below_zero.ensures ∙ signed-below_zero c.args.exact.negative c.args.exact.low) ∙
    sym e ∙ ap (λ m. outcome c.args.kind (signed c.args.exact.negative m)) same ∙ ap (outcome c.args.kind) (sym x.integer)
