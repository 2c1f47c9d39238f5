use Rattle.std.proofs.Common.{◌≡◌, arith}
use Rattle.cad_pure.proofs.bodies.conditions_impurity.Goals as goal

pub returns : goal.returns
returns c = let e : c.loop-i.i ≡ 0 = omega arith in rw e at c.loop-i.invariant
