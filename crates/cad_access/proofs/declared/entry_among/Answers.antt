use Rattle.std.proofs.Common.{◌+◌, Option, drop, ap, ◌∙◌, arith}
use Rattle.std.specs.Option.{option_or}
use Rattle.cad_declarations.specs.Tables.{TypeEntry}
use Rattle.cad_access.specs.RunContracts.{contracts_of, entry_among}
use Rattle.cad_access.proofs.Found.{entry_walked}
use Rattle.cad_access.proofs.declared.entry_among.Goals as goal

pub returns-in-Some : goal.returns-in-Some
returns-in-Some c =
    let contracts = c.args.contracts.now in
    let i = c.loop-contract.contract-index in
    ap (λ (o : Option TypeEntry). option_or o (entry_among (contracts_of (drop (i + 1) contracts)) c.args.id.now)) c.in-Some.ensures
    ∙ entry_walked c.args.id.now contracts i (i + 1) c.contract-item.result (omega arith) c.loop-contract-test.true c.contract-item.is c.loop-contract.invariant

pub loop-contract-preserved : goal.loop-contract-preserved
loop-contract-preserved c =
    let contracts = c.args.contracts.now in
    let i = c.loop-contract.contract-index in
    ap (λ (o : Option TypeEntry). option_or o (entry_among (contracts_of (drop (i + 1) contracts)) c.args.id.now)) c.in-None.ensures
    ∙ entry_walked c.args.id.now contracts i (i + 1) c.contract-item.result (omega arith) c.loop-contract-test.true c.contract-item.is c.loop-contract.invariant
