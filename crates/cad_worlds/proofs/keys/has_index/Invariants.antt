use Rattle.std.proofs.Common.{◌≡◌, drop}
use Rattle.cad_worlds.specs.Code.KnownRegisters.{has_index}
use Rattle.cad_worlds.proofs.keys.has_index.Given as goal

abbrev pub invariant-loop-one : goal.invariant-loop-one
invariant-loop-one l = has_index (drop l.one-index l.known) l.index ≡ has_index l.known l.index
