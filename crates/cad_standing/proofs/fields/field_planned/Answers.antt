use Rattle.std.proofs.Common.{Option, subst}
use Rattle.cad_evaluation.specs.Standing.{base_of, field_of, here}
use Rattle.cad_locations.specs.Views.{location_of}
use Rattle.cad_syntax.specs.declared.types.Authorization.{Authorization}
use Rattle.cad_state.specs.Views.{FindsAndCarriesOut}
use Rattle.cad_standing.specs.Actions.{and_then}
use Rattle.cad_standing.specs.declared.fields.FieldPlace.{FieldPlace}
use Rattle.cad_standing.specs.Views.{standing_of}
use Rattle.cad_standing.specs.Code.Plans.{field_named}
use Rattle.cad_standing.proofs.Composing.{plan_then}
use Rattle.cad_standing.proofs.fields.field_planned.Goals as goal

pub returns-in-Ok : goal.returns-in-Ok
returns-in-Ok c =
    let x = location_of c.args.location.now in
    plan_then (λ (f : FieldPlace). field_named c.args.writes c.args.field.now c.args.rights.now x f.id f.index) standing_of
    (and_then (base_of (here c.args.rights.now x c.args.inside)) (field_of c.args.writes c.args.field.now)) c.in-Ok.place
    c.args.state.now c.field_named-found.new.state c.field_named-found.result (c.in-Ok.ensures c.args.writes c.args.rights.now)
    (subst (λ (o : Option Authorization). FindsAndCarriesOut standing_of (field_named c.args.writes c.args.field.now o x c.in-Ok.place.id c.in-Ok.place.index) c.args.state.now c.field_named-found.new.state c.field_named-found.result)
    c.lent.ensures c.field_named-found.ensures)
