use Rattle.std.proofs.Common.{subst, sym}
use Rattle.std.specs.Prelude.{Bool}
use Rattle.cad_evaluation.specs.Changing.{content_of}
use Rattle.cad_evaluation.specs.Uses.{nil_of}
use Rattle.cad_evaluation.specs.Standing.{value_at}
use Rattle.cad_locations.specs.Views.{location_of}
use Rattle.cad_state.specs.Views.{FindsAndCarriesOut}
use Rattle.cad_standing.specs.Actions.{and_then}
use Rattle.cad_standing.specs.Views.{standing_of}
use Rattle.cad_standing.specs.declared.standing.Standing.{Standing}
use Rattle.cad_standing.proofs.NilLaws.{nil_stands}
use Rattle.cad_standing.proofs.optionals.nil_in.Goals as goal

pub returns-in-Here : goal.returns-in-Here
returns-in-Here c =
    subst (λ (p : Standing). FindsAndCarriesOut {B = Bool} (λ b. b) (and_then (value_at (standing_of p)) (λ t. nil_of (content_of t))) c.args.state.now c.nil_there-told.new.state c.nil_there-told.result)
    (sym c.in-Here.is) (nil_stands c.in-Here.rights (location_of c.in-Here.location) c.in-Here.inside c.args.state.now c.nil_there-told.new.state c.nil_there-told.result c.nil_there-told.ensures)

pub returns-in-LedBy : goal.returns-in-LedBy
returns-in-LedBy c =
    subst (λ (p : Standing). FindsAndCarriesOut {B = Bool} (λ b. b) (and_then (value_at (standing_of p)) (λ t. nil_of (content_of t))) c.args.state.now c.nil_led-told.new.state c.nil_led-told.result)
    (sym c.in-LedBy.is) c.nil_led-told.ensures
