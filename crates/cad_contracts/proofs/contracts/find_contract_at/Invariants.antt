use Rattle.std.proofs.Common.{◌≡◌, map, drop}
use Rattle.cad_contracts.specs.Views.{entry_of}
use Rattle.cad_declarations.specs.Imports as imp
use Rattle.cad_contracts.proofs.contracts.find_contract_at.Given as goal

abbrev pub invariant-loop-contract : goal.invariant-loop-contract
invariant-loop-contract l =
    imp.deployed_contract (map entry_of (drop l.contract-index l.contracts)) (imp.contract_id l.address l.name) ≡ imp.deployed_contract (map entry_of l.contracts) (imp.contract_id l.address l.name)
