use Rattle.cad_types.specs.Code.Views.{listed}
use Rattle.cad_types.proofs.Judging.{at_least_of}
use Rattle.cad_types.proofs.marks.first_marks.Goals as goal

pub returns : goal.returns
returns c = at_least_of (listed c.args.table.now) c.declared.result.now c.declared.ensures c.all_marked.result c.all_marked.ensures
