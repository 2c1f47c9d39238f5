use Rattle.cad_receivers.specs.Views.{settled_of, spot_of}
use Rattle.cad_state.specs.Views.{state_over}
use Rattle.cad_containers.proofs.AimLaws.{aimed, look_stops_aim}
use Rattle.cad_containers.proofs.aims.aim_at_array.Goals as goal

pub returns-in-Ok : goal.returns-in-Ok
returns-in-Ok c = λ accounts ready.
    aimed (settled_of c.args.receiver) (state_over accounts c.args.state.now) (spot_of c.in-Ok.spot) c.array_aim_of.result (c.in-Ok.ensures accounts ready) c.array_aim_of.ensures

pub returns-in-Err : goal.returns-in-Err
returns-in-Err c = λ accounts ready. look_stops_aim (settled_of c.args.receiver) (state_over accounts c.args.state.now) c.in-Err.stop (c.in-Err.ensures accounts ready)
