use Rattle.cad_rows.specs.Views.{pure_tree}
use Rattle.cad_locations.specs.Views.{location_of}
use Rattle.cad_evaluation.specs.Casts.{borrowed}
use Rattle.cad_evaluation.specs.Standing.{without}
use Rattle.cad_standing.specs.Actions.{and_then}
use Rattle.cad_world.specs.Locations.{read}
use Rattle.cad_standing.proofs.Settled.{settled, unsettled}
use Rattle.cad_standing.proofs.references.borrow_here.Goals as goal

pub returns-in-Ok : goal.returns-in-Ok
returns-in-Ok c =
    let x = location_of c.args.location.now in
    settled pure_tree x (and_then (read x) (λ t. borrowed c.args.authorization.now x c.args.one c.args.wraps (without c.args.inside t)))
    c.args.state.now c.settle.new.state c.borrow_settled.new.state c.borrow_settled.result c.in-Ok.ensures c.borrow_settled.ensures

pub returns-in-Err : goal.returns-in-Err
returns-in-Err c =
    let x = location_of c.args.location.now in
    unsettled pure_tree x (λ t. borrowed c.args.authorization.now x c.args.one c.args.wraps (without c.args.inside t))
    c.args.state.now c.settle.new.state c.settle.new.state c.in-Err.stop c.in-Err.ensures
