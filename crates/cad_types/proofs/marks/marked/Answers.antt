use Rattle.std.proofs.Common.{sym, ◌∙◌}
use Rattle.cad_types.specs.Code.Views.{listed}
use Rattle.cad_types.proofs.Turns.{marked_there, marked_nowhere}
use Rattle.cad_types.proofs.marks.marked.Goals as goal

pub returns-in-Some : goal.returns-in-Some
returns-in-Some c = c.marks_at.ensures ∙ sym (marked_there (listed c.args.table.now) c.args.marks.now c.args.id.now c.in-Some.place (sym c.in-Some.ensures))

pub returns-in-None : goal.returns-in-None
returns-in-None c = c.unmarked.ensures ∙ sym (marked_nowhere (listed c.args.table.now) c.args.marks.now c.args.id.now (sym c.in-None.ensures))
