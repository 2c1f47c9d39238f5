use Rattle.std.proofs.Common.{sym}
use Rattle.cad_accounts.proofs.Places.{found_value, absent}
use Rattle.cad_accounts.proofs.block.Block.get.Goals as goal

pub returns-in-Ok : goal.returns-in-Ok
returns-in-Ok c =
    let b = c.args.self.now in
    found_value b.rows.items c.in-Ok.i c.args.key.now c.index.result.now c.as_slice.result.now b.ascending c.in-Ok.ensures c.index.ensures c.as_slice.ensures

pub returns-in-Err : goal.returns-in-Err
returns-in-Err c = sym (absent c.args.self.now.rows.items c.in-Err.field-0 c.args.key.now c.in-Err.ensures)
