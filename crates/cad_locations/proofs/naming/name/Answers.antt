use Rattle.std.proofs.Common.{ap, subst}
use Rattle.cad_num.specs.Numbers.{value_of}
use Rattle.cad_state.specs.Views.{FindsAndCarriesOut}
use Rattle.cad_state.proofs.Finding.{find_any}
use Rattle.cad_values.specs.Values.{pure_value}
use Rattle.cad_world.specs.Locations.{variable, contract, part, element, entry, name as named_at}
use Rattle.cad_locations.specs.Code.Spots.{named_there}
use Rattle.cad_locations.specs.Views.{location_of}
use Rattle.cad_locations.proofs.Looks.{at_that}
use Rattle.cad_locations.proofs.naming.name.Goals as goal

pub returns-in-Variable : goal.returns-in-Variable
returns-in-Variable c =
    at_that (λ label. label) named_at _ (variable c.in-Variable.x) c.args.state.now c.name_variable.new.state c.name_variable.result (ap location_of c.in-Variable.is)
    (find_any (λ label. label) (named_at (variable c.in-Variable.x)) c.args.state.now c.name_variable.new.state c.name_variable.result c.name_variable.ensures)

pub returns-in-Contract : goal.returns-in-Contract
returns-in-Contract c =
    at_that (λ label. label) named_at _ (contract c.in-Contract.id) c.args.state.now c.name_value.new.state c.name_value.result (ap location_of c.in-Contract.is)
    (find_any (λ label. label) (named_at (contract c.in-Contract.id)) c.args.state.now c.name_value.new.state c.name_value.result c.name_value.ensures)

pub returns-in-Part : goal.returns-in-Part
returns-in-Part c = at_that (λ label. label) named_at _ (part c.in-Part.label c.in-Part.i) c.args.state.now c.name_in.new.state c.name_in.result (ap location_of c.in-Part.is) c.name_in.ensures

pub returns-in-Element : goal.returns-in-Element
returns-in-Element c =
    at_that (λ label. label) named_at _ (element c.in-Element.field-0 (value_of c.in-Element.field-1)) c.args.state.now c.name_place.new.state c.name_place.result (ap location_of c.in-Element.is)
    (subst (λ k. FindsAndCarriesOut (λ label. label) (named_there k) c.args.state.now c.name_place.new.state c.name_place.result) (ap location_of c.in-Element.is) c.name_place.ensures)

pub returns-in-Entry : goal.returns-in-Entry
returns-in-Entry c =
    at_that (λ label. label) named_at _ (entry c.in-Entry.field-0 (pure_value c.in-Entry.field-1)) c.args.state.now c.name_place-in-Entry.new.state c.name_place-in-Entry.result (ap location_of c.in-Entry.is)
    (subst (λ k. FindsAndCarriesOut (λ label. label) (named_there k) c.args.state.now c.name_place-in-Entry.new.state c.name_place-in-Entry.result) (ap location_of c.in-Entry.is) c.name_place-in-Entry.ensures)
