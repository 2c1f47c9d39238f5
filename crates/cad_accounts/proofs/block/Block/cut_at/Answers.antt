use Rattle.cad_accounts.proofs.Splitting.{cuts_there, cuts_before}
use Rattle.cad_accounts.proofs.block.Block.cut_at.Goals as goal

pub returns-in-Ok : goal.returns-in-Ok
returns-in-Ok c = cuts_there c.args.key.now c.args.self.now.rows.items c.in-Ok.i c.args.self.now.ascending c.in-Ok.ensures

pub returns-in-Err : goal.returns-in-Err
returns-in-Err c = cuts_before c.args.key.now c.args.self.now.rows.items c.in-Err.i c.in-Err.ensures
