use Rattle.std.proofs.Common.{◌≡◌, arith}
use Rattle.cad_moves.proofs.search.+searches.Goals as goal

pub search_row-returns-clause-leads : goal.search_row-returns-clause-leads
search_row-returns-clause-leads t c = let e : c.loop-i.i ≡ 0 = omega arith in (rw e at c.loop-i.invariant).1
