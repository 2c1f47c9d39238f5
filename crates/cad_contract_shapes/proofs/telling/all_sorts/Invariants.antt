use Rattle.std.proofs.Common.{◌≡◌, ◌++◌, map, drop}
use Rattle.cad_state.specs.Views.{contract_of}
use Rattle.cad_types.specs.Declarations.{declaration_of}
use Rattle.cad_contract_shapes.specs.Sorts.{sorts}
use Rattle.cad_contract_shapes.proofs.telling.all_sorts.Given as goal

abbrev pub invariant-loop-contract : goal.invariant-loop-contract
invariant-loop-contract l = map declaration_of l.all.items ++ sorts (map contract_of (drop l.contract-index l.contracts)) ≡ sorts (map contract_of l.contracts)
