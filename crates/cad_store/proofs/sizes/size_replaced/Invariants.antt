use Rattle.std.proofs.Common.{◌≡◌, ◌+◌, drop}
use Rattle.cad_accounts.specs.Registers.{at}
use Rattle.cad_accounts.specs.Room.{rows_of}
use Rattle.cad_store.specs.Code.Sizes.{replaced}
use Rattle.cad_store.proofs.sizes.size_replaced.Given as goal

abbrev pub invariant-loop-change : goal.invariant-loop-change
invariant-loop-change l = l.sum + replaced (at (rows_of l.registers)) (drop l.change-index l.changes) ≡ replaced (at (rows_of l.registers)) l.changes
