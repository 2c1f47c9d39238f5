use Rattle.cad_syntax.proofs.Same.{has_tells}
use Rattle.cad_syntax.proofs.type_id.contains.Goals as goal

pub returns-clause-tells : goal.returns-clause-tells
returns-clause-tells c = has_tells c.has.result c.args.ids.now c.args.id.now c.has.ensures
