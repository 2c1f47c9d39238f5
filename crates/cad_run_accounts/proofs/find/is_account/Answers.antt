use Rattle.std.proofs.Common.{ap, sym}
use Rattle.std.specs.Option.{is_some}
use Rattle.cad_state.specs.Views.{state_over}
use Rattle.cad_run_accounts.proofs.Found.{is_one, found_nowhere}
use Rattle.cad_run_accounts.proofs.find.is_account.Goals as goal

pub returns-in-Some : goal.returns-in-Some
returns-in-Some c = λ w. is_one (state_over w c.args.state.now).accounts c.args.address.0 _ c.account_total.result c.in-Some.ensures.0 c.in-Some.ensures.1 (c.account_total.ensures w)

pub returns-in-None : goal.returns-in-None
returns-in-None c = λ w. ap is_some (sym (found_nowhere (state_over w c.args.state.now).accounts c.args.address.0 c.account_total.result (c.account_total.ensures w) c.in-None.ensures))
