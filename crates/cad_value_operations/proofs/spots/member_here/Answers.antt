use Rattle.cad_receivers.specs.Views.{settled_of, spot_of}
use Rattle.cad_rows.specs.Views.{pure_row, pure_tree}
use Rattle.cad_state.proofs.Finding.{find_given}
use Rattle.cad_value_operations.proofs.Looks.{looked_stops, looked_then}
use Rattle.cad_value_operations.specs.Code.Members.{spot_member}
use Rattle.cad_world.specs.Receivers.{look_at}
use Rattle.cad_value_operations.proofs.spots.member_here.Goals as goal

pub returns-in-Ok : goal.returns-in-Ok
returns-in-Ok c = λ no_type no_instance.
    looked_then spot_of pure_tree (look_at (settled_of c.args.receiver)) (λ spot. spot_member c.args.group spot (pure_row c.args.row.now)) c.in-Ok.spot c.args.state.now c.args.state.now c.spot_member.result c.in-Ok.ensures
    (find_given pure_tree (spot_member c.args.group (spot_of c.in-Ok.spot) (pure_row c.args.row.now)) c.args.state.now c.spot_member.result (c.spot_member.ensures no_type no_instance))

pub returns-in-Err : goal.returns-in-Err
returns-in-Err c = λ no_type no_instance.
    looked_stops spot_of pure_tree (look_at (settled_of c.args.receiver)) (λ spot. spot_member c.args.group spot (pure_row c.args.row.now)) c.args.state.now c.args.state.now c.in-Err.stop c.in-Err.ensures
