use Rattle.std.proofs.Common.{arith}
use Rattle.cad_run_accounts.proofs.Found.{total_all, total_part}
use Rattle.cad_run_accounts.proofs.find.account_total.Goals as goal

pub returns-in-All : goal.returns-in-All
returns-in-All c = λ w. total_all w c.args.state.now.accounts c.in-All.all c.len.result c.in-All.is (omega (arith, c.len.ensures, c.in-All.all.ok.0))

pub returns-in-Part : goal.returns-in-Part
returns-in-Part c = λ w. total_part w c.args.state.now.accounts c.in-Part.count _ c.in-Part.is
