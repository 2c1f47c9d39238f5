-- A number keeps its sign.
use Rattle.std.proofs.Common.{◌*◌, ◌/◌, ℤ, ap, sym, ◌∙◌, subst}
use Rattle.cad_syntax.specs.Kinds.{signed}
use Rattle.cad_num.specs.Numbers.{IsExact, scale}
use Rattle.cad_num.proofs.Signs.{quotient_rescaled}
use Rattle.cad_num.proofs.exact.rescaled.Goals as goal

pub returns : goal.returns
returns c =
    let a = c.args.a in
    let P : ℤ → Type 0 = λ z. IsExact c.scaled.result z in
    let new = ap (λ d. signed a.negative (a.magnitude * d / c.scale-2.result)) c.scale.ensures in
    let old = ap (λ e. signed a.negative (a.magnitude * scale c.args.kind / e)) c.scale-2.ensures in
    subst P (new ∙ old ∙ sym (quotient_rescaled a.negative a.magnitude (scale c.args.kind) (scale a.kind))) c.scaled.ensures
