use Rattle.std.proofs.Common.{refl, ap}
use Rattle.cad_num.specs.Numbers.{value_of}
use Rattle.cad_rows.specs.Views.{pure_shape}
use Rattle.cad_syntax.specs.Types.{pure_type}
use Rattle.cad_locations.specs.Views.{tree_seen}
use Rattle.cad_locations.proofs.Spots.{array_place}
use Rattle.cad_locations.proofs.places.place_of_element.Goals as goal

pub returns-in-Some : goal.returns-in-Some
returns-in-Some c =
    array_place (tree_seen c.args.node) (pure_type c.in-Array.field-0) c.args.node.parts.now (value_of c.args.n.now) c.in-Some.i
    (ap pure_shape c.in-Array.is) refl c.in-Some.ensures.0 c.in-Some.ensures.1
