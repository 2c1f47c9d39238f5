use Rattle.std.proofs.Common.{arith}
use Rattle.cad_accounts.specs.Room.{rows_of}
use Rattle.cad_accounts.proofs.Places.{size_is, size_bound}
use Rattle.cad_accounts.proofs.registers.MapRegisters.size.Goals as goal

pub returns-then-size : goal.returns-then-size
returns-then-size c = let m = c.args.self.now in omega (arith, size_is (rows_of m), m.sized, size_bound (rows_of m) m.short)

pub returns-else-size : goal.returns-else-size
returns-else-size c = let m = c.args.self.now in omega (arith, size_is (rows_of m), m.sized, size_bound (rows_of m) m.short)
