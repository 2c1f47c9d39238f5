use Rattle.std.proofs.Common.{◌≡◌, arith}
use Rattle.cad_pure.proofs.statements.+statements.Goals as goal

pub statements_impurity-returns : goal.statements_impurity-returns
statements_impurity-returns t c = let e : c.loop-i.i ≡ 0 = omega arith in rw e at c.loop-i.invariant

pub cases_impurity-returns : goal.cases_impurity-returns
cases_impurity-returns t c = let e : c.loop-i.i ≡ 0 = omega arith in rw e at c.loop-i.invariant
