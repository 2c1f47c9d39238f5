use Rattle.cad_state.specs.Views.{account_of}
use Rattle.cad_transaction_ends.proofs.Kept.{KeptSo}
use Rattle.cad_world.specs.Begin.{kept_account}
use Rattle.cad_transaction_ends.proofs.left.strip_accounts.Given as goal

abbrev pub invariant-loop-i : goal.invariant-loop-i
invariant-loop-i l = KeptSo account_of kept_account l.i l.accounts.items l.fn.accounts.items
