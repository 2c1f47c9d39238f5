use Rattle.cad_evaluation.specs.Changing.{fill_element as filled, element_type}
use Rattle.cad_num.specs.Numbers.{value_of}
use Rattle.cad_outcomes.specs.Outcomes.{no_value}
use Rattle.cad_rows.specs.Views.{pure_tree}
use Rattle.cad_world.specs.Locations.{element, slot_of}
use Rattle.cad_world.specs.State.{◌>>=◌}
use Rattle.cad_assignments.proofs.Fills.{label_then, label_gone}
use Rattle.cad_assignments.proofs.filling.fill_element.Goals as goal

pub returns-in-Ok : goal.returns-in-Ok
returns-in-Ok c =
    let x = element c.args.label (value_of c.args.n.now) in
    label_then no_value c.args.label (λ f. slot_of x >>= (λ place. filled x (pure_tree c.args.tree) place (element_type f.tree.shape)))
    c.args.state.now c.find.new.state c.fill_element_found.new.state c.fill_element_found.result c.in-Ok.ensures c.fill_element_found.ensures

pub returns-in-Err : goal.returns-in-Err
returns-in-Err c =
    let x = element c.args.label (value_of c.args.n.now) in
    label_gone no_value c.args.label (λ f. slot_of x >>= (λ place. filled x (pure_tree c.args.tree) place (element_type f.tree.shape)))
    c.args.state.now c.find.new.state c.find.new.state c.in-Err.stop c.in-Err.ensures
