use Rattle.std.proofs.Common.{◌+◌, Option, drop, ap, ◌∙◌, arith}
use Rattle.std.specs.Option.{option_or}
use Rattle.cad_auth.specs.declared.mapping.Mapping.{Mapping}
use Rattle.cad_access.specs.RunContracts.{contracts_of, mapping_among}
use Rattle.cad_access.proofs.Found.{mapping_walked}
use Rattle.cad_access.proofs.mappings.mapping_among.Goals as goal

pub returns-in-Some : goal.returns-in-Some
returns-in-Some c =
    let contracts = c.args.contracts.now in
    let i = c.loop-contract.contract-index in
    ap (λ (o : Option Mapping). option_or o (mapping_among (contracts_of (drop (i + 1) contracts)) c.args.id.now)) c.in-Some.ensures
    ∙ mapping_walked c.args.id.now contracts i (i + 1) c.contract-item.result (omega arith) c.loop-contract-test.true c.contract-item.is c.loop-contract.invariant

pub loop-contract-preserved : goal.loop-contract-preserved
loop-contract-preserved c =
    let contracts = c.args.contracts.now in
    let i = c.loop-contract.contract-index in
    ap (λ (o : Option Mapping). option_or o (mapping_among (contracts_of (drop (i + 1) contracts)) c.args.id.now)) c.in-None.ensures
    ∙ mapping_walked c.args.id.now contracts i (i + 1) c.contract-item.result (omega arith) c.loop-contract-test.true c.contract-item.is c.loop-contract.invariant
