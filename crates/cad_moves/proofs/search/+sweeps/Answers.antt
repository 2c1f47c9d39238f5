use Rattle.std.proofs.Common.{◌≡◌, arith}
use Rattle.cad_moves.proofs.search.+sweeps.Goals as goal

pub sweep_row-returns : goal.sweep_row-returns
sweep_row-returns t c = let e : c.loop-i.i ≡ 0 = omega arith in rw e at c.loop-i.invariant
