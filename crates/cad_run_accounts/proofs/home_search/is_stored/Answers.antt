use Rattle.cad_run_accounts.proofs.Homes.{stored_there, stored_nowhere}
use Rattle.cad_run_accounts.proofs.home_search.is_stored.Goals as goal

pub returns-in-Some : goal.returns-in-Some
returns-in-Some c = stored_there c.stands_in.result c.args.label c.args.i c.args.state.now c.in-Some.account.now c.as_slice.result.now c.in-Some.ensures c.as_slice.ensures.value c.stands_in.ensures

pub returns-in-None : goal.returns-in-None
returns-in-None c = stored_nowhere c.args.label c.args.i c.args.state.now c.in-None.ensures
