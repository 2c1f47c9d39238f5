use Rattle.std.proofs.Common.{◌≡◌, ◌++◌, map, drop}
use Rattle.std.specs.List.{flat_map}
use Rattle.cad_worlds.specs.Code.KnownRegisters.{known_section}
use Rattle.cad_worlds.specs.Standing.{register_of}
use Rattle.cad_worlds.proofs.known_changes.push_known.Given as goal

abbrev pub invariant-loop-one : goal.invariant-loop-one
invariant-loop-one l = map register_of l.rows.items ++ flat_map (known_section l.section) (drop l.one-index l.known) ≡ map register_of l.fn.rows.items ++ flat_map (known_section l.section) l.known
