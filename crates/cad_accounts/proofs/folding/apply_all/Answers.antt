use Rattle.cad_accounts.specs.Registers.{at}
use Rattle.cad_accounts.specs.Room.{rows_of}
use Rattle.cad_accounts.proofs.OneByOne.{entry_more}
use Rattle.cad_accounts.proofs.folding.apply_all.Goals as goal

pub loop-entry-preserved : goal.loop-entry-preserved
loop-entry-preserved c key =
    entry_more (at (rows_of c.loop-entry.registers)) (at (rows_of c.apply.new.self)) c.loop-entry.yielded c.in-Some.entry c.loop-entry.invariant c.in_ok-apply.ensures.ok key
