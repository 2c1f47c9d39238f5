use Rattle.std.proofs.Common.{◌≡◌, ◌++◌, map, drop}
use Rattle.std.specs.List.{flat_map}
use Rattle.cad_state.specs.Views.{contract_of}
use Rattle.cad_world.specs.Shapes.{own_entitlements}
use Rattle.cad_contract_shapes.proofs.contracts.declared_entitlements.Given as goal

abbrev pub invariant-loop-contract : goal.invariant-loop-contract
invariant-loop-contract l =
    l.ids ++ flat_map own_entitlements (map contract_of (drop l.contract-index l.contracts)) ≡ flat_map own_entitlements (map contract_of l.contracts)
