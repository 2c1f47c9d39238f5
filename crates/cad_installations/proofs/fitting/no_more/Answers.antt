use Rattle.cad_installations.proofs.Coming.{too_many}
use Rattle.cad_installations.proofs.fitting.no_more.Goals as goal

pub returns : goal.returns
returns c = too_many c.args.row c.is_empty.result c.is_empty.ensures c.args.row.ok.0 c.if-is_empty.false
