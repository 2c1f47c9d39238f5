use Rattle.std.proofs.Common.{sym}
use Rattle.cad_state.specs.Views.{state_over}
use Rattle.cad_run_accounts.proofs.Found.{found_there, found_nowhere}
use Rattle.cad_run_accounts.proofs.find.account.Goals as goal

pub returns-in-Some-account_of_index : goal.returns-in-Some-account_of_index
returns-in-Some-account_of_index c = λ w. found_there w c.args.state.now.accounts c.args.address.0 c.in-Some.i c.in-Some-account_of_index.account.now c.in-Some.ensures.0 (sym c.in-Some-account_of_index.ensures)

pub returns-in-None : goal.returns-in-None
returns-in-None c = λ w. found_nowhere (state_over w c.args.state.now).accounts c.args.address.0 c.account_total.result (c.account_total.ensures w) c.in-None.ensures
