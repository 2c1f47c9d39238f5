use Rattle.std.proofs.Common.{◌+◌, arith}
use Rattle.cad_state.specs.Views.{account_of}
use Rattle.cad_transaction_ends.proofs.Kept.{none_kept, one_kept, all_kept}
use Rattle.cad_world.specs.Begin.{kept_account}
use Rattle.cad_transaction_ends.proofs.left.strip_accounts.Goals as goal

pub loop-i-init : goal.loop-i-init
loop-i-init c = none_kept account_of kept_account c.args.accounts.now.items

pub loop-i-preserved : goal.loop-i-preserved
loop-i-preserved c =
    one_kept account_of kept_account c.loop-i.i (c.loop-i.i + 1) c.loop-i.accounts.items c.args.accounts.now.items c.strip_account.new.account c.index_mut.result.now (omega arith)
    (omega (arith, c.loop-i-test.true, c.len-i-end.ensures, c.args.accounts.now.ok.0, c.loop-i.invariant.same)) c.loop-i.invariant c.index_mut.ensures.value c.strip_account.ensures

pub returns : goal.returns
returns c =
    all_kept account_of kept_account c.loop-i.i c.loop-i.accounts.items c.args.accounts.now.items (omega (arith, c.loop-i-test.false, c.len-i-end.ensures, c.args.accounts.now.ok.0)) c.loop-i.invariant
