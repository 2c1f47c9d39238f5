use Rattle.std.proofs.Common.{ap}
use Rattle.cad_evaluation.specs.Changing.{still_there as looked_again}
use Rattle.cad_num.specs.Numbers.{value_of}
use Rattle.cad_outcomes.specs.Outcomes.{no_value}
use Rattle.cad_values.specs.Values.{pure_value}
use Rattle.cad_world.specs.Locations.{part, element, entry}
use Rattle.cad_locations.specs.Views.{location_of}
use Rattle.cad_locations.proofs.Looks.{at_that}
use Rattle.cad_assignments.proofs.swapping.still_there.Goals as goal

pub returns-in-Part : goal.returns-in-Part
returns-in-Part c = at_that no_value looked_again _ (part c.in-Part.label c.in-Part.field-1) c.args.state.now c.find.new.state c.find.result (ap location_of c.in-Part.is) c.find.ensures

pub returns-in-Element : goal.returns-in-Element
returns-in-Element c = at_that no_value looked_again _ (element c.in-Element.label (value_of c.in-Element.field-1)) c.args.state.now c.find-in-Element.new.state c.find-in-Element.result (ap location_of c.in-Element.is) c.find-in-Element.ensures

pub returns-in-Entry : goal.returns-in-Entry
returns-in-Entry c = at_that no_value looked_again _ (entry c.in-Entry.label (pure_value c.in-Entry.field-1)) c.args.state.now c.find-in-Entry.new.state c.find-in-Entry.result (ap location_of c.in-Entry.is) c.find-in-Entry.ensures
