use Rattle.std.proofs.Common.{take}
use Rattle.cad_world_checks.specs.Identities.{HoldsNumbers}
use Rattle.cad_world_checks.proofs.part_summary.number_set.Given as goal

abbrev pub invariant-loop-number : goal.invariant-loop-number
invariant-loop-number l = HoldsNumbers l.seen (take l.number-index l.numbers)
