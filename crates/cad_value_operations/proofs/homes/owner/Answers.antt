use Rattle.cad_evaluation.specs.Builtins.{read_owner}
use Rattle.cad_receivers.specs.Views.{settled_of, spot_of}
use Rattle.cad_rows.specs.Views.{pure_tree}
use Rattle.cad_value_operations.proofs.Looks.{looked_stops, looked_then}
use Rattle.cad_world.specs.Receivers.{look_at}
use Rattle.cad_value_operations.proofs.homes.owner.Goals as goal

pub returns-in-Ok : goal.returns-in-Ok
returns-in-Ok c =
    looked_then spot_of pure_tree (look_at (settled_of c.args.receiver)) read_owner c.in-Ok.spot c.args.state.now c.args.state.now c.owner_of_spot.result c.in-Ok.ensures c.owner_of_spot.ensures

pub returns-in-Err : goal.returns-in-Err
returns-in-Err c = looked_stops spot_of pure_tree (look_at (settled_of c.args.receiver)) read_owner c.args.state.now c.args.state.now c.in-Err.stop c.in-Err.ensures
