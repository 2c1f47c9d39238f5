use Rattle.cad_accounts.specs.Registers.{applied}
use Rattle.cad_accounts.proofs.OneByOne.{one_taken}
use Rattle.cad_accounts.proofs.folding.take_all.Goals as goal

pub loop-entry-preserved : goal.loop-entry-preserved
loop-entry-preserved c m = one_taken c.loop-entry.sifted c.take.new.self c.loop-entry.yielded c.in-Some.entry (applied c.args.sifted.now m) m (c.loop-entry.invariant m) (c.in_ok-take.ensures m)
