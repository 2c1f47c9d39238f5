use Rattle.cad_evaluation.specs.Arguments.{with_argument}
use Rattle.cad_evaluation.specs.Casts.{instance_told}
use Rattle.cad_receivers.specs.Views.{settled_of}
use Rattle.cad_rows.specs.Views.{pure_row}
use Rattle.cad_value_operations.proofs.TypeLaws.{instance_so, told_stops, told_then}
use Rattle.cad_value_operations.specs.Code.Members.{instance_by}
use Rattle.cad_world.specs.Receivers.{look_at}
use Rattle.cad_value_operations.proofs.types.instance_at.Goals as goal

pub returns-in-Ok : goal.returns-in-Ok
returns-in-Ok c =
    let r = pure_row c.args.row.now in
    told_then (look_at (settled_of c.args.receiver)) (λ spot. with_argument r (instance_told spot)) (instance_by r) (instance_so r) c.in-Ok.told
    c.args.state.now c.instance-answer.new.state c.instance-answer.result c.in-Ok.ensures c.instance-answer.ensures

pub returns-in-Err : goal.returns-in-Err
returns-in-Err c =
    told_stops (look_at (settled_of c.args.receiver)) (λ spot. with_argument (pure_row c.args.row.now) (instance_told spot)) c.args.state.now c.args.state.now c.in-Err.stop c.in-Err.ensures
