use Rattle.std.proofs.Common.{◌+◌, arith}
use Rattle.cad_state.specs.Views.{contract_of}
use Rattle.cad_transaction_ends.proofs.Kept.{none_kept, one_kept, all_kept}
use Rattle.cad_world.specs.Begin.{kept_contract}
use Rattle.cad_transaction_ends.proofs.left.strip_contracts.Goals as goal

pub loop-i-init : goal.loop-i-init
loop-i-init c = none_kept contract_of kept_contract c.args.contracts.now.items

pub loop-i-preserved : goal.loop-i-preserved
loop-i-preserved c =
    one_kept contract_of kept_contract c.loop-i.i (c.loop-i.i + 1) c.loop-i.contracts.items c.args.contracts.now.items c.strip_contract.new.contract c.index_mut.result.now (omega arith)
    (omega (arith, c.loop-i-test.true, c.len-i-end.ensures, c.args.contracts.now.ok.0, c.loop-i.invariant.same)) c.loop-i.invariant c.index_mut.ensures.value c.strip_contract.ensures

pub returns : goal.returns
returns c =
    all_kept contract_of kept_contract c.loop-i.i c.loop-i.contracts.items c.args.contracts.now.items (omega (arith, c.loop-i-test.false, c.len-i-end.ensures, c.args.contracts.now.ok.0)) c.loop-i.invariant
