use Rattle.std.proofs.Common.{sym, arith}
use Rattle.cad_run_accounts.proofs.Found.{known_there}
use Rattle.cad_run_accounts.proofs.find.know.Goals as goal

pub returns-in-Some-account_of_index-clause-known : goal.returns-in-Some-account_of_index-clause-known
returns-in-Some-account_of_index-clause-known c = λ w j e below. known_there c.args.state.now.accounts c.args.address.0 c.in-Some.i _ c.in-Some.ensures.0 (sym c.in-Some-account_of_index.ensures) j e

pub returns-in-None-clause-known : goal.returns-in-None-clause-known
returns-in-None-clause-known c = λ w j e below. absurd (omega (arith, below, c.in-None.ensures j e, c.account_total.ensures w))
