-- A place that was settled: what reads it goes on from there.
use Rattle.std.proofs.Common.{Option, Result, Ok, Err}
use Rattle.cad_outcomes.specs.declared.stop.Stop.{Stop}
use Rattle.cad_outcomes.specs.Outcomes.{Stops, no_value}
use Rattle.cad_outcomes.proofs.Steps.{stops_on}
use Rattle.cad_locations.specs.Views.{looked_up}
use Rattle.cad_receivers.proofs.Passing.{after_ready, stops_before}
use Rattle.cad_selections.proofs.Settling.{settled_same}
use Rattle.cad_world.specs.Locations.{Location, slot_of, read, read_slot}
use Rattle.cad_world.specs.Rows.{Tree}
use Rattle.cad_world.specs.State.{State, bind, Action, ◌>>=◌}
use Rattle.cad_state.specs.Views.{state_over, FindsAndCarriesOut}
use Rattle.cad_state.specs.declared.state.RunState.{RunState}

-- What is carried out from there is carried out from before.
pub settled : {C D : Type 0} (view : D → C) (x : Location) (p : Action C) (a b c : RunState) (r : Result D Stop)
    → FindsAndCarriesOut {B = Unit {0}} no_value (looked_up x) a b (Ok tt) → FindsAndCarriesOut view p b c r → FindsAndCarriesOut view p a c r
settled view x p a b c r first second = after_ready view p a b c r (settled_same x a b first) second

-- what stops it stops all that reads the place
unread : (x : Location) (s : State) (stop : Stop) → Stops (looked_up x s) stop → Stops (read x s) stop
unread x s stop h = stops_before (slot_of x s) (read_slot x) stop h

pub unsettled : {C D : Type 0} (view : D → C) (x : Location) (f : Option Tree → Action C) (a b c : RunState) (stop : Stop)
    → FindsAndCarriesOut {B = Unit {0}} no_value (looked_up x) a b (Err stop) → FindsAndCarriesOut {B = D} view (read x >>= f) a c (Err stop)
unsettled view x f a b c stop first w ready = stops_on (read x (state_over w a)) f stop (unread x (state_over w a) stop (first w ready))

pub unsettled_twice : {B C D : Type 0} (view : D → C) (x : Location) (f : Option Tree → Action B) (g : B → Action C) (a b c : RunState) (stop : Stop)
    → FindsAndCarriesOut {B = Unit {0}} no_value (looked_up x) a b (Err stop) → FindsAndCarriesOut {B = D} view (read x >>= f >>= g) a c (Err stop)
unsettled_twice view x f g a b c stop first w ready =
    stops_on (bind (read x (state_over w a)) f) g stop (stops_on (read x (state_over w a)) f stop (unread x (state_over w a) stop (first w ready)))
