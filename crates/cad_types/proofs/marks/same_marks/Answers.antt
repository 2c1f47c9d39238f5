use Rattle.std.specs.Cmp.Lexicographic.{pointwise}
use Rattle.cad_syntax.proofs.Same.{answer_tells, lists_tell}
use Rattle.cad_types.proofs.Turns.{same_mark, marks_tell}
use Rattle.cad_types.proofs.marks.same_marks.Goals as goal

pub returns : goal.returns
returns c = answer_tells (pointwise same_mark) (lists_tell same_mark marks_tell) c.eq.result c.args.a.now c.args.b.now c.eq.ensures
