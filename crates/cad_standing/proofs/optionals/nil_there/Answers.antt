use Rattle.cad_evaluation.specs.Changing.{content_of}
use Rattle.cad_evaluation.specs.Uses.{nil_of}
use Rattle.cad_evaluation.specs.Standing.{or_nil, without}
use Rattle.cad_locations.specs.Views.{location_of}
use Rattle.std.specs.Prelude.{Bool}
use Rattle.cad_standing.specs.Code.Plans.{nil_there}
use Rattle.cad_standing.proofs.Settled.{settled, unsettled}
use Rattle.cad_standing.proofs.optionals.nil_there.Goals as goal

pub returns-in-Ok : goal.returns-in-Ok
returns-in-Ok c =
    settled {D = Bool} (λ b. b) (location_of c.args.location.now) (nil_there (location_of c.args.location.now) c.args.inside)
    c.args.state.now c.settle.new.state c.settle.new.state c.nil_settled.result c.in-Ok.ensures c.nil_settled.ensures

pub returns-in-Err : goal.returns-in-Err
returns-in-Err c =
    unsettled {D = Bool} (λ b. b) (location_of c.args.location.now) (λ t. nil_of (content_of (or_nil (without c.args.inside t))))
    c.args.state.now c.settle.new.state c.settle.new.state c.in-Err.stop c.in-Err.ensures
