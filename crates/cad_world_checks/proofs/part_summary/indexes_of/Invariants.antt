use Rattle.std.proofs.Common.{◌≡◌, ◌++◌, drop, map}
use Rattle.cad_world_checks.specs.Parts.{index_of}
use Rattle.cad_world_checks.proofs.part_summary.indexes_of.Given as goal

abbrev pub invariant-loop-one : goal.invariant-loop-one
invariant-loop-one l = l.found ++ map index_of (drop l.one-index l.known) ≡ map index_of l.known
