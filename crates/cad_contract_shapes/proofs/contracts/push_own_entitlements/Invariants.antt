use Rattle.std.proofs.Common.{◌≡◌, ◌++◌, drop}
use Rattle.std.specs.List.{filter}
use Rattle.cad_world.specs.Declared.{is_within}
use Rattle.cad_contract_shapes.proofs.contracts.push_own_entitlements.Given as goal

abbrev pub invariant-loop-id : goal.invariant-loop-id
invariant-loop-id l = l.ids ++ filter (is_within l.contract.id) (drop l.id-index l.id-items) ≡ l.fn.ids ++ filter (is_within l.contract.id) l.id-items
