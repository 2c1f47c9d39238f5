use Rattle.std.proofs.Common.{Some, ap}
use Rattle.cad_outcomes.proofs.Steps.{stops_on}
use Rattle.cad_world.specs.Locations.{as_read}
use Rattle.cad_world.specs.State.{ok, bind}
use Rattle.cad_locations.specs.Views.{location_of, tree_seen}
use Rattle.cad_locations.proofs.reading.read_slot.Goals as goal

pub returns-in-Ok : goal.returns-in-Ok
returns-in-Ok c = λ s. rw c.in-Full.is (ap (λ o. bind o (λ t v. ok (Some t) v)) (c.in-Ok.ensures s))

pub returns-in-Err : goal.returns-in-Err
returns-in-Err c = λ s. rw c.in-Full.is (stops_on (ok (as_read (location_of c.args.location.now) (tree_seen c.in-Full.seen)) s) (λ t v. ok (Some t) v) c.in-Err.stop (c.in-Err.ensures s))

pub returns-in-Ok-absent : goal.returns-in-Ok-absent
returns-in-Ok-absent c = λ s. rw c.in-Out.is (c.in-Ok-absent.ensures s)

pub returns-in-Err-absent : goal.returns-in-Err-absent
returns-in-Err-absent c = λ s. rw c.in-Out.is (c.in-Err-absent.ensures s)
