use Rattle.std.proofs.Common.{◌∙◌, arith, refl, sym}
use Rattle.cad_world.specs.Storable.{is_low}
use Rattle.cad_transaction_ends.proofs.AccountTests.{each_passes, fails_over, pass_over}
use Rattle.cad_transaction_ends.proofs.storable.are_accounts_low.Goals as goal

pub returns-then-not-is_account_low : goal.returns-then-not-is_account_low
returns-then-not-is_account_low c = λ accounts storable.
    sym (fails_over is_low accounts c.args.state.now.accounts c.account_index.result (sym c.is_account_low.ensures ∙ c.if-not-is_account_low.true))

pub returns : goal.returns
returns c = λ accounts storable.
    sym (pass_over is_low accounts c.args.state.now.accounts refl storable.low (each_passes is_low c.args.state.now.accounts c.loop-n.n (omega (arith, c.loop-n-test.false, c.account_count-n-end.ensures)) c.loop-n.invariant))
