use Rattle.cad_rows.specs.Views.{pure_tree}
use Rattle.cad_locations.specs.Views.{location_of}
use Rattle.cad_evaluation.specs.Casts.{borrowed}
use Rattle.cad_evaluation.specs.Standing.{without}
use Rattle.cad_standing.specs.Actions.{and_then}
use Rattle.cad_standing.specs.Code.Plans.{reference_by}
use Rattle.cad_standing.proofs.Composing.{plan_then}
use Rattle.cad_world.specs.Locations.{read}
use Rattle.cad_standing.proofs.references.borrow_settled.Goals as goal

pub returns-in-Ok : goal.returns-in-Ok
returns-in-Ok c =
    let x = location_of c.args.location.now in
    plan_then (reference_by c.args.authorization.now x c.args.wraps) pure_tree (and_then (read x) (λ t. borrowed c.args.authorization.now x c.args.one c.args.wraps (without c.args.inside t)))
    c.in-Ok.sees c.args.state.now c.reference_by.new.state c.reference_by.result (c.in-Ok.ensures c.args.authorization.now) c.reference_by.ensures
