use Rattle.std.proofs.Common.{ap, sym, ◌∙◌}
use Rattle.cad_num.specs.Numbers.{value_of}
use Rattle.cad_values.specs.Values.{pure_value}
use Rattle.cad_world.specs.Locations.{receiver, part, element, entry, slot_of}
use Rattle.cad_world.specs.State.{ok}
use Rattle.cad_state.specs.Views.{state_over}
use Rattle.cad_locations.specs.Code.Slots.{slot_seen}
use Rattle.cad_locations.specs.Views.{location_of}
use Rattle.cad_locations.proofs.Looks.{at_that}
use Rattle.cad_locations.proofs.lookup.slot_at.Goals as goal

pub returns-in-Variable : goal.returns-in-Variable
returns-in-Variable c = λ accounts ready. rw c.in-Variable.is (ap (λ o. ok o (state_over accounts c.args.state.now)) (sym (c.variable.ensures accounts) ∙ sym c.seen_slot.ensures))

pub returns-in-Receiver : goal.returns-in-Receiver
returns-in-Receiver c = at_that slot_seen slot_of _ (receiver c.in-Receiver.label) c.args.state.now c.args.state.now _ (ap location_of c.in-Receiver.is) c.receiver_slot.ensures

pub returns-in-Part : goal.returns-in-Part
returns-in-Part c = at_that slot_seen slot_of _ (part c.in-Part.label c.in-Part.i) c.args.state.now c.args.state.now _ (ap location_of c.in-Part.is) c.part_slot.ensures

pub returns-in-Element : goal.returns-in-Element
returns-in-Element c = at_that slot_seen slot_of _ (element c.in-Element.label (value_of c.in-Element.n)) c.args.state.now c.args.state.now _ (ap location_of c.in-Element.is) c.element_slot.ensures

pub returns-in-Entry : goal.returns-in-Entry
returns-in-Entry c = at_that slot_seen slot_of _ (entry c.in-Entry.label (pure_value c.in-Entry.key)) c.args.state.now c.args.state.now _ (ap location_of c.in-Entry.is) c.entry_slot.ensures
