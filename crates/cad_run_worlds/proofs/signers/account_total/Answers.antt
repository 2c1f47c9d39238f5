use Rattle.std.proofs.Common.{arith}
use Rattle.cad_run_worlds.proofs.Signing.{total_all, total_part}
use Rattle.cad_run_worlds.proofs.signers.account_total.Goals as goal

pub returns-in-All : goal.returns-in-All
returns-in-All c = λ base. total_all base c.args.accounts.now c.in-All.all c.len.result c.in-All.is (omega (arith, c.len.ensures, c.in-All.all.ok.0))

pub returns-in-Part : goal.returns-in-Part
returns-in-Part c = λ base. total_part base c.args.accounts.now c.in-Part.count c.in-Part.known c.in-Part.is
