use Rattle.cad_syntax.proofs.Same.{answer_tells, ids_tell}
use Rattle.cad_syntax.specs.TypeIds.{same_id}
use Rattle.cad_syntax.proofs.type_id.TypeId.same.Goals as goal

pub returns-clause-tells : goal.returns-clause-tells
returns-clause-tells c = answer_tells same_id ids_tell c.eq.result c.args.self.now c.args.other.now c.eq.ensures
