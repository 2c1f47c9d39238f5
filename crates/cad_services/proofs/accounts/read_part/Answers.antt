use Rattle.cad_evaluation.specs.Accounts.{read_part_of}
use Rattle.cad_outcomes.proofs.Steps.{gives_here}
use Rattle.cad_receivers.proofs.Passing.{look_stops, looked}
use Rattle.cad_receivers.specs.Views.{settled_of, spot_of}
use Rattle.cad_rows.specs.Views.{pure_tree}
use Rattle.cad_state.specs.Views.{state_over}
use Rattle.cad_services.proofs.accounts.read_part.Goals as goal

pub returns-in-Ok : goal.returns-in-Ok
returns-in-Ok c = looked pure_tree (settled_of c.args.receiver) (read_part_of c.args.whole c.args.part) c.in-Ok.spot c.args.state.now c.part_at.result c.in-Ok.ensures
    (λ w. gives_here pure_tree (read_part_of c.args.whole c.args.part (spot_of c.in-Ok.spot)) c.part_at.result (state_over w c.args.state.now) c.part_at.ensures)

pub returns-in-Err : goal.returns-in-Err
returns-in-Err c = look_stops (settled_of c.args.receiver) (read_part_of c.args.whole c.args.part) c.args.state.now c.in-Err.stop c.in-Err.ensures
