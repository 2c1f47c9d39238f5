use Rattle.std.proofs.Common.{◌≡◌, ◌++◌, map, drop}
use Rattle.std.specs.List.{filter}
use Rattle.cad_declarations.specs.Views.{type_entry_of}
use Rattle.cad_shapes.specs.Views.{pure_shape}
use Rattle.cad_world.specs.Declared.{is_within}
use Rattle.cad_world.specs.Shapes.{shape_of_entry}
use Rattle.cad_contract_shapes.proofs.contracts.push_own_types.Given as goal

abbrev pub invariant-loop-t : goal.invariant-loop-t
invariant-loop-t l =
    map pure_shape l.shapes.items ++ map shape_of_entry (filter (λ entry. is_within l.contract.id entry.id) (map type_entry_of (drop l.t-index l.t-items)))
    ≡ map pure_shape l.fn.shapes.items ++ map shape_of_entry (filter (λ entry. is_within l.contract.id entry.id) (map type_entry_of l.t-items))
