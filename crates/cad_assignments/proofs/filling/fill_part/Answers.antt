use Rattle.cad_evaluation.specs.Changing.{fill_part as filled}
use Rattle.cad_outcomes.specs.Outcomes.{no_value}
use Rattle.cad_rows.specs.Views.{pure_tree}
use Rattle.cad_world.specs.Locations.{part}
use Rattle.cad_world.specs.Rows.{slot}
use Rattle.cad_assignments.proofs.Fills.{label_then, label_gone}
use Rattle.cad_assignments.proofs.filling.fill_part.Goals as goal

pub returns-in-Ok : goal.returns-in-Ok
returns-in-Ok c =
    label_then no_value c.args.label (λ f. filled (part c.args.label c.args.i) (pure_tree c.args.tree) (slot c.args.i f.tree.parts))
    c.args.state.now c.find.new.state c.fill_part_found.new.state c.fill_part_found.result c.in-Ok.ensures c.fill_part_found.ensures

pub returns-in-Err : goal.returns-in-Err
returns-in-Err c =
    label_gone no_value c.args.label (λ f. filled (part c.args.label c.args.i) (pure_tree c.args.tree) (slot c.args.i f.tree.parts))
    c.args.state.now c.find.new.state c.find.new.state c.in-Err.stop c.in-Err.ensures
