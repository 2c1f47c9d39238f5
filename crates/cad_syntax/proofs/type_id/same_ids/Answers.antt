use Rattle.std.specs.Cmp.Lexicographic.{pointwise}
use Rattle.cad_syntax.proofs.Same.{answer_tells, lists_tell, ids_tell}
use Rattle.cad_syntax.specs.TypeIds.{same_id}
use Rattle.cad_syntax.proofs.type_id.same_ids.Goals as goal

pub returns : goal.returns
returns c = answer_tells (pointwise same_id) (lists_tell same_id ids_tell) c.eq.result c.args.a.now c.args.b.now c.eq.ensures
