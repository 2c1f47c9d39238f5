use Rattle.std.proofs.Common.{◌≡◌, ◌++◌, drop}
use Rattle.cad_worlds.specs.Code.KnownRegisters.{indexes_of}
use Rattle.cad_worlds.proofs.known_changes.indexes_of.Given as goal

abbrev pub invariant-loop-one : goal.invariant-loop-one
invariant-loop-one l = l.indexes.items ++ indexes_of (drop l.one-index l.known) ≡ indexes_of l.known
