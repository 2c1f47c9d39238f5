use Rattle.std.proofs.Common.{◌≡◌, ◌++◌, map, drop}
use Rattle.std.specs.List.{flat_map}
use Rattle.cad_worlds.specs.Sections.{fields_of}
use Rattle.cad_worlds.specs.Standing.{register_of}
use Rattle.cad_worlds.proofs.writing.push_values.Given as goal

abbrev pub invariant-loop-contract : goal.invariant-loop-contract
invariant-loop-contract l = map register_of l.rows.items ++ flat_map fields_of (drop l.contract-index l.contracts) ≡ map register_of l.fn.rows.items ++ flat_map fields_of l.contracts
