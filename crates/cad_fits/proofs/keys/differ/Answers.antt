use Rattle.cad_fits.proofs.Simple.{table_tells}
use Rattle.cad_fits.proofs.keys.differ.Goals as goal

pub returns-then-told : goal.returns-then-told
returns-then-told c = table_tells c.args.entries.now c.in_ok-differ.differ (c.in_ok-told.ensures c.if-told.true) c.in_ok-differ.ensures
