use Rattle.std.proofs.Common.{◌≡◌, ◌++◌, drop}
use Rattle.cad_making.proofs.dying.append.Given as goal

abbrev pub invariant-loop-n : goal.invariant-loop-n
invariant-loop-n l = l.to ++ drop l.n-index l.more ≡ l.fn.to ++ l.more
