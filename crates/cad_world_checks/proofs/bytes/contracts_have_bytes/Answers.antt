use Rattle.std.proofs.Common.{arith}
use Rattle.cad_fits.proofs.Each.{not_so, is_so}
use Rattle.cad_state.specs.Views.{contract_of}
use Rattle.cad_worlds.specs.Standing.{ContractHasBytes}
use Rattle.cad_world_checks.proofs.AllOf.{one_fails, one_more, all_hold}
use Rattle.cad_world_checks.proofs.bytes.contracts_have_bytes.Goals as goal

pub returns-then-not-branch : goal.returns-then-not-branch
returns-then-not-branch c =
    one_fails ContractHasBytes contract_of c.args.contracts.now c.loop-contract.contract-index c.contract-item.result (omega arith) c.contract-item.is (not_so c.in_ok-contract_has_bytes.field-0 c.in_ok-contract_has_bytes.ensures c.if-not-branch.true) c.loop-contract.invariant

pub loop-contract-preserved : goal.loop-contract-preserved
loop-contract-preserved c = one_more ContractHasBytes contract_of c.args.contracts.now c.loop-contract.contract-index c.contract-item.result (omega arith) c.contract-item.is (is_so c.in_ok-contract_has_bytes.field-0 c.in_ok-contract_has_bytes.ensures c.if-not-branch.false) c.loop-contract.invariant

pub returns : goal.returns
returns c = all_hold ContractHasBytes contract_of c.args.contracts.now c.loop-contract.contract-index (omega arith) c.loop-contract.invariant
