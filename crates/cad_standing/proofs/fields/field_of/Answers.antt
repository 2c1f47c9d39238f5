use Rattle.std.proofs.Common.{subst, sym}
use Rattle.cad_evaluation.specs.Standing.{base_of, field_of, onward}
use Rattle.cad_state.specs.Views.{FindsAndCarriesOut}
use Rattle.cad_standing.specs.Actions.{and_then}
use Rattle.cad_standing.specs.Views.{standing_of}
use Rattle.cad_standing.specs.declared.standing.Standing.{Standing}
use Rattle.cad_standing.proofs.fields.field_of.Goals as goal

pub returns-in-Here : goal.returns-in-Here
returns-in-Here c =
    subst (λ (p : Standing). FindsAndCarriesOut standing_of (onward (λ q. and_then (base_of q) (field_of c.args.writes c.args.field.now)) (standing_of p)) c.args.state.now c.field_here-found.new.state c.field_here-found.result)
    (sym c.in-Here.is) c.field_here-found.ensures

pub returns-in-LedBy : goal.returns-in-LedBy
returns-in-LedBy c =
    subst (λ (p : Standing). FindsAndCarriesOut standing_of (onward (λ q. and_then (base_of q) (field_of c.args.writes c.args.field.now)) (standing_of p)) c.args.state.now c.field_led-found.new.state c.field_led-found.result)
    (sym c.in-LedBy.is) c.field_led-found.ensures
