use Rattle.std.proofs.Common.{option_map}
use Rattle.cad_locations.specs.Views.{location_of}
use Rattle.cad_standing.specs.Views.{standing_of}
use Rattle.cad_standing.proofs.FieldLaws.{named_follows, unnamed}
use Rattle.cad_standing.proofs.fields.field_named.Goals as goal

pub returns-in-Ok-find_for : goal.returns-in-Ok-find_for
returns-in-Ok-find_for c =
    named_follows standing_of c.args.writes c.args.field.now (option_map (λ own. own.now) c.args.rights) (location_of c.args.location.now) c.args.place.now.id c.args.place.now.index c.in-Ok.label
    c.args.state.now c.name.new.state c.find_for.new.state c.field_in.result c.in-Ok.ensures c.find_for.ensures c.field_in.ensures

pub returns-in-Err : goal.returns-in-Err
returns-in-Err c =
    unnamed standing_of c.args.writes c.args.field.now (option_map (λ own. own.now) c.args.rights) (location_of c.args.location.now) c.args.place.now.id c.args.place.now.index
    c.args.state.now c.name.new.state c.in-Err.stop c.in-Err.ensures
