use Rattle.cad_evaluation.specs.Changing.{put_at}
use Rattle.cad_labels.specs.Laws.{AnyOne}
use Rattle.cad_num.specs.Numbers.{value_of}
use Rattle.cad_outcomes.specs.Outcomes.{no_value}
use Rattle.cad_rows.specs.Views.{pure_tree}
use Rattle.cad_state.proofs.Finding.{find_then, find_stopped}
use Rattle.cad_world.specs.Locations.{element}
use Rattle.cad_assignments.specs.Code.Fills.{asked}
use Rattle.cad_assignments.specs.declared.asking.Inner.TheVariants.{Elements}
use Rattle.cad_assignments.proofs.Asked.{asked_keeps}
use Rattle.cad_assignments.proofs.filling.set_element.Goals as goal

pub returns-in-Ok : goal.returns-in-Ok
returns-in-Ok c =
    let t = pure_tree c.args.tree in
    find_then AnyOne (asked Elements c.args.label t) (asked_keeps Elements c.args.label t) no_value no_value (λ _. put_at (element c.args.label (value_of c.args.n.now)) t) tt
    c.args.state.now c.ask.new.state c.put_element.new.state c.put_element.result c.in-Ok.ensures (λ _. c.put_element.ensures)

pub returns-in-Err : goal.returns-in-Err
returns-in-Err c =
    let t = pure_tree c.args.tree in
    find_stopped no_value no_value (asked Elements c.args.label t) (λ _. put_at (element c.args.label (value_of c.args.n.now)) t) c.args.state.now c.ask.new.state c.ask.new.state c.in-Err.stop c.in-Err.ensures
