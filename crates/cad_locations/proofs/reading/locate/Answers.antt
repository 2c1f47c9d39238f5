use Rattle.std.proofs.Common.{ap}
use Rattle.cad_num.specs.Numbers.{value_of}
use Rattle.cad_outcomes.specs.Outcomes.{no_value}
use Rattle.cad_values.specs.Values.{pure_value}
use Rattle.cad_world.specs.Locations.{receiver, part, element, entry}
use Rattle.cad_locations.specs.Code.Slots.{node_there}
use Rattle.cad_locations.specs.Views.{location_of}
use Rattle.cad_locations.proofs.Looks.{at_that}
use Rattle.cad_locations.proofs.reading.locate.Goals as goal

pub returns-in-Receiver : goal.returns-in-Receiver
returns-in-Receiver c = at_that no_value node_there _ (receiver c.in-Receiver.label) c.args.state.now c.find.new.state _ (ap location_of c.in-Receiver.is) c.find.ensures

pub returns-in-Part : goal.returns-in-Part
returns-in-Part c = at_that no_value node_there _ (part c.in-Part.label c.in-Part.field-1) c.args.state.now c.find-in-Part.new.state _ (ap location_of c.in-Part.is) c.find-in-Part.ensures

pub returns-in-Element : goal.returns-in-Element
returns-in-Element c = at_that no_value node_there _ (element c.in-Element.label (value_of c.in-Element.field-1)) c.args.state.now c.find-in-Element.new.state _ (ap location_of c.in-Element.is) c.find-in-Element.ensures

pub returns-in-Entry : goal.returns-in-Entry
returns-in-Entry c = at_that no_value node_there _ (entry c.in-Entry.label (pure_value c.in-Entry.field-1)) c.args.state.now c.find-in-Entry.new.state _ (ap location_of c.in-Entry.is) c.find-in-Entry.ensures
