-- A quotient has the sign of its two parts.
use Rattle.std.proofs.Common.{◌*◌, ◌/◌, not, ℤ, ap, sym, ◌∙◌, subst}
use Rattle.std.specs.Bool.{beq}
use Rattle.cad_syntax.specs.Kinds.{signed}
use Rattle.cad_num.specs.Numbers.{IsExact}
use Rattle.cad_num.proofs.Signs.{quotient_divided}
use Rattle.cad_num.proofs.exact.quotient.Goals as goal

pub returns : goal.returns
returns c =
    let a = c.args.a in
    let b = c.args.b in
    let P : ℤ → Type 0 = λ z. IsExact c.scaled.result z in
    subst P (ap (λ d. signed (not (beq a.negative b.negative)) (a.magnitude * d / b.magnitude)) c.scale.ensures ∙ sym (quotient_divided a.negative b.negative a.magnitude _ b.magnitude)) c.scaled.ensures
