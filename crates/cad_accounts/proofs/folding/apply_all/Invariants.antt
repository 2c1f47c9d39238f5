use Rattle.std.proofs.Common.{◌≡◌, List, ℕ}
use Rattle.cad_accounts.specs.Registers.{at, applied, no_registers}
use Rattle.cad_accounts.specs.Room.{rows_of}
use Rattle.cad_accounts.proofs.folding.apply_all.Given as goal

abbrev pub invariant-loop-entry : goal.invariant-loop-entry
invariant-loop-entry l = (key : List ℕ) → at (rows_of l.registers) key ≡ applied l.yielded no_registers key
