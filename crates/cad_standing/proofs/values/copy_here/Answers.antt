use Rattle.cad_evaluation.specs.Reading.{copied}
use Rattle.std.specs.Prelude.{None}
use Rattle.cad_evaluation.specs.Standing.{here, or_nil, value_at, without}
use Rattle.cad_locations.specs.Views.{location_of}
use Rattle.cad_rows.specs.Views.{pure_tree}
use Rattle.cad_world.specs.State.{give}
use Rattle.cad_standing.specs.Actions.{and_then}
use Rattle.cad_standing.proofs.Settled.{settled, unsettled_twice}
use Rattle.cad_standing.proofs.values.copy_here.Goals as goal

pub returns-in-Ok : goal.returns-in-Ok
returns-in-Ok c =
    settled pure_tree (location_of c.args.location.now) (and_then (value_at (here None (location_of c.args.location.now) c.args.inside)) copied)
    c.args.state.now c.settle.new.state c.settle.new.state c.copy_settled.result c.in-Ok.ensures c.copy_settled.ensures

pub returns-in-Err : goal.returns-in-Err
returns-in-Err c =
    unsettled_twice pure_tree (location_of c.args.location.now) (λ t. give (or_nil (without c.args.inside t))) copied
    c.args.state.now c.settle.new.state c.settle.new.state c.in-Err.stop c.in-Err.ensures
