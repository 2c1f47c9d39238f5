use Rattle.std.proofs.Common.{subst}
use Rattle.cad_num.specs.Numbers.{value_of}
use Rattle.cad_rows.specs.Ways.{pure_node}
use Rattle.cad_state.specs.Views.{state_over}
use Rattle.cad_locations.specs.Code.Spots.{IsElement}
use Rattle.cad_locations.proofs.Spots.{element_is}
use Rattle.cad_locations.proofs.places.element_place.Goals as goal

pub returns-in-Some-place_of_element : goal.returns-in-Some-place_of_element
returns-in-Some-place_of_element c = λ accounts ready.
    element_is c.args.label (value_of c.args.n.now) c.in-Some-place_of_element.i (pure_node c.in-Some.node) (state_over accounts c.args.state.now) (c.in-Some.ensures accounts ready)
    (subst (IsElement (value_of c.args.n.now) c.in-Some-place_of_element.i) c.seen.ensures c.in-Some-place_of_element.ensures)
