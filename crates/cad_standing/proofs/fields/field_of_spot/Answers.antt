use Rattle.std.proofs.Common.{ap, sym, ◌∙◌}
use Rattle.cad_receivers.specs.Views.{spot_of}
use Rattle.cad_world.specs.Labels.{position_of}
use Rattle.cad_standing.specs.Views.{standing_of}
use Rattle.cad_standing.proofs.FieldLaws.{spot_follows}
use Rattle.cad_standing.proofs.fields.field_of_spot.Goals as goal

pub returns-in-Some-position_of : goal.returns-in-Some-position_of
returns-in-Some-position_of c =
    spot_follows standing_of c.args.writes c.args.field.now (spot_of c.args.spot) c.in-Some.id.now c.in-Some-label.label c.in-Some-position_of.i c.args.state.now c.field_in.result
    (sym c.in-Some.ensures) c.in-Some-label.is (ap (position_of c.args.field.now) (sym c.field_names.ensures) ∙ sym c.in-Some-position_of.ensures) c.field_in.ensures
