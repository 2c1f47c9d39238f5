use Rattle.std.proofs.Common.{◌↔◌, map, drop}
use Rattle.std.specs.List.{AllByRecursion}
use Rattle.cad_worlds.specs.Standing.{AccountHasBytes}
use Rattle.cad_world_checks.specs.Code.Summaries.{account_in}
use Rattle.cad_world_checks.proofs.part_bytes.known_have_bytes.Given as goal

abbrev pub invariant-loop-one : goal.invariant-loop-one
invariant-loop-one l = AllByRecursion AccountHasBytes (map account_in (drop l.one-index l.known)) ↔ AllByRecursion AccountHasBytes (map account_in l.known)
