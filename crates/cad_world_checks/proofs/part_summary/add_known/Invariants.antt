use Rattle.std.proofs.Common.{◌≡◌, ◌++◌, drop}
use Rattle.std.specs.List.{flat_map}
use Rattle.cad_world_checks.specs.Parts.{known_identities}
use Rattle.cad_world_checks.proofs.part_summary.add_known.Given as goal

abbrev pub invariant-loop-one : goal.invariant-loop-one
invariant-loop-one l = l.found ++ flat_map known_identities (drop l.one-index l.known) ≡ l.fn.found ++ flat_map known_identities l.known
