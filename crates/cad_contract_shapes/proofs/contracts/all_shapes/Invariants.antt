use Rattle.std.proofs.Common.{◌≡◌, ◌++◌, map, drop}
use Rattle.cad_shapes.specs.Views.{pure_shape}
use Rattle.cad_state.specs.Views.{contract_of}
use Rattle.cad_world.specs.Declared.{types_of}
use Rattle.cad_world.specs.Shapes.{shape_of_entry}
use Rattle.cad_contract_shapes.proofs.contracts.all_shapes.Given as goal

abbrev pub invariant-loop-contract : goal.invariant-loop-contract
invariant-loop-contract l =
    map pure_shape l.all.items ++ map shape_of_entry (types_of (map contract_of (drop l.contract-index l.contracts)))
    ≡ map shape_of_entry (types_of (map contract_of l.contracts))
