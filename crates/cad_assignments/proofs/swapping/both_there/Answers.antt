use Rattle.cad_evaluation.specs.Changing.{still_there}
use Rattle.cad_labels.specs.Laws.{AnyOne}
use Rattle.cad_outcomes.specs.Outcomes.{no_value}
use Rattle.cad_state.proofs.Finding.{find_then, find_stopped}
use Rattle.cad_locations.specs.Views.{location_of}
use Rattle.cad_assignments.proofs.Swaps.{still_keeps}
use Rattle.cad_assignments.proofs.swapping.both_there.Goals as goal

pub returns-in-Ok : goal.returns-in-Ok
returns-in-Ok c =
    let x = location_of c.args.first.now in
    let y = location_of c.args.second.now in
    find_then AnyOne (still_there x) (still_keeps x) no_value no_value (λ _. still_there y) tt c.args.state.now c.still_there.new.state c.still_there-in-Ok.new.state c.still_there-in-Ok.result c.in-Ok.ensures (λ _. c.still_there-in-Ok.ensures)

pub returns-in-Err : goal.returns-in-Err
returns-in-Err c =
    let x = location_of c.args.first.now in
    let y = location_of c.args.second.now in
    find_stopped no_value no_value (still_there x) (λ _. still_there y) c.args.state.now c.still_there.new.state c.still_there.new.state c.in-Err.stop c.in-Err.ensures
