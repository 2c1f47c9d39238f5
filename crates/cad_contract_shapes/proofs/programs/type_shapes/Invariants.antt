use Rattle.std.proofs.Common.{◌≡◌, ◌++◌, map, drop}
use Rattle.cad_declarations.specs.Views.{type_entry_of}
use Rattle.cad_shapes.specs.Views.{pure_shape}
use Rattle.cad_world.specs.Shapes.{shape_of_entry}
use Rattle.cad_contract_shapes.proofs.programs.type_shapes.Given as goal

abbrev pub invariant-loop-t : goal.invariant-loop-t
invariant-loop-t l = map pure_shape l.shapes.items ++ map shape_of_entry (map type_entry_of (drop l.t-index l.types)) ≡ map shape_of_entry (map type_entry_of l.types)
