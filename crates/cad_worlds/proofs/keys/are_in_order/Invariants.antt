use Rattle.std.proofs.Common.{drop}
use Rattle.cad_worlds.specs.Code.KnownRegisters.{StandBetween}
use Rattle.cad_worlds.proofs.keys.are_in_order.Given as goal

abbrev pub invariant-loop-one : goal.invariant-loop-one
invariant-loop-one l = StandBetween l.least l.count (drop l.one-index l.known) → StandBetween 0 l.count l.known
