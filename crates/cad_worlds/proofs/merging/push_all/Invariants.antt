use Rattle.std.proofs.Common.{◌≡◌, ◌++◌, drop}
use Rattle.cad_worlds.specs.RowLists.{rows_at}
use Rattle.cad_worlds.proofs.merging.push_all.Given as goal

abbrev pub invariant-loop-row : goal.invariant-loop-row
invariant-loop-row l = rows_at l.all.items ++ drop l.row-index l.rows ≡ rows_at l.fn.all.items ++ l.rows
