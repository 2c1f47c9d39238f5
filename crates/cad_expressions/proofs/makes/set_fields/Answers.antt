use Rattle.std.proofs.Common.{refl, Ok}
use Rattle.cad_rows.specs.Views.{pure_row}
use Rattle.cad_outcomes.specs.Outcomes.{no_value}
use Rattle.cad_labels.specs.Laws.{HasNone}
use Rattle.cad_expression_leaves.specs.Code.Steps.{fields_set}
use Rattle.cad_evaluation.specs.Callees.{initializer}
use Rattle.cad_state.proofs.Finding.{find_stopped, find_then}
use Rattle.cad_world.specs.Rows as rows
use Rattle.cad_world.specs.State.{done}
use Rattle.cad_expression_leaves.specs.Views.{tree_in}
use Rattle.cad_expressions.proofs.makes.set_fields.Goals as goal

pub returns-then-not-is_written : goal.returns-then-not-is_written
unfolding fields_set
returns-then-not-is_written g c none = rw (c.if-not-is_written.true) (λ w ready. refl)

pub returns-in-Ok : goal.returns-in-Ok
unfolding fields_set
returns-in-Ok g c none = rw (c.if-not-is_written.false) (find_then HasNone ((g.E.Evaluator.calls c.args.evaluator.now) (initializer c.args.id.now c.args.label) (pure_row c.args.row.items)) ((g.met.E.Evaluator.keeps c.args.evaluator.now) (initializer c.args.id.now c.args.label) (pure_row c.args.row.items) none) tree_in no_value (λ (t : rows.Tree). done) c.in-Ok.found c.args.state.now c.call.new.state c.call.new.state (Ok tt) c.in-Ok.ensures (λ h w ready. refl))

pub returns-in-Err : goal.returns-in-Err
unfolding fields_set
returns-in-Err g c none = rw (c.if-not-is_written.false) (find_stopped {D = Unit {0}} tree_in no_value ((g.E.Evaluator.calls c.args.evaluator.now) (initializer c.args.id.now c.args.label) (pure_row c.args.row.items)) (λ (t : rows.Tree). done) c.args.state.now c.call.new.state c.call.new.state c.in-Err.stop c.in-Err.ensures)
