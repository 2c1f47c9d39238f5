use Rattle.std.proofs.Common.{◌≡◌, ◌<◌, length, take}
use Rattle.cad_accounts.specs.Room.{rows_of}
use Rattle.cad_accounts.proofs.Promising.{Turned}
use Rattle.cad_accounts.proofs.registers.MapRegisters.promise.Given as goal

abbrev pub invariant-loop-change : goal.invariant-loop-change
invariant-loop-change l = record {
  rows : rows_of l.self ≡ rows_of l.fn.self;
  some : 0 < length l.self.blocks.items;
  turned : Turned l.self.blocks.items (take l.change-index l.changes) l.last l.at l.promised;
}
