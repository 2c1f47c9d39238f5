-- A word is what is left of the integer modulo the number of words.
use Rattle.std.proofs.Common.{ap}
use Rattle.cad_num.specs.Numbers.{outcome}
use Rattle.cad_num.proofs.Outcomes.{wrap_positive, wrap_negative}
use Rattle.cad_num.proofs.fit.wrap.Goals as goal
use Rattle.cad_num.proofs.fit.wrap.Goals.{then-exact, else-exact}

pub returns-clause-value : goal.returns-clause-value
returns-clause-value c z e =
    elim c.if-exact.branch [
      | then-exact w ↦ (let f = wrap_negative c.args.kind c.args.exact.low w.wrapping_neg-bits.result e.magnitude c.requires e.low w.wrapping_neg-bits.ensures in let i = ap (outcome c.args.kind) e.integer in cc)
      | else-exact w ↦ (let f = wrap_positive c.args.kind c.args.exact.low e.magnitude c.requires e.low in let i = ap (outcome c.args.kind) e.integer in cc)
    ]
