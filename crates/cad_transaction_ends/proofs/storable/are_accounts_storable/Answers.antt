use Rattle.std.proofs.Common.{◌∙◌, arith, refl, sym}
use Rattle.cad_world.specs.Storable.{is_storable}
use Rattle.cad_transaction_ends.proofs.AccountTests.{each_passes, fails_over, pass_over}
use Rattle.cad_transaction_ends.proofs.storable.are_accounts_storable.Goals as goal

pub returns-then-not-is_account_storable : goal.returns-then-not-is_account_storable
returns-then-not-is_account_storable c = λ accounts storable.
    sym (fails_over is_storable accounts c.args.state.now.accounts c.account_index.result (sym c.is_account_storable.ensures ∙ c.if-not-is_account_storable.true))

pub returns : goal.returns
returns c = λ accounts storable.
    sym (pass_over is_storable accounts c.args.state.now.accounts refl storable.storable (each_passes is_storable c.args.state.now.accounts c.loop-n.n (omega (arith, c.loop-n-test.false, c.account_count-n-end.ensures)) c.loop-n.invariant))
