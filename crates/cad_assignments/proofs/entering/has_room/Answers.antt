use Rattle.std.proofs.Common.{subst}
use Rattle.cad_outcomes.specs.Outcomes.{Gives, no_value}
use Rattle.cad_rows.specs.Ways.{pure_node}
use Rattle.cad_assignments.specs.Code.Fills.{room_in}
use Rattle.cad_locations.proofs.Looks.{known_gives}
use Rattle.cad_assignments.proofs.entering.has_room.Goals as goal

pub returns-in-Some : goal.returns-in-Some
returns-in-Some c =
    known_gives no_value c.args.label (λ f. room_in f.tree.parts) (pure_node c.in-Some.node) c.args.state.now c.room_in.result c.in-Some.ensures
    (subst (λ t. Gives no_value (room_in t.parts) c.room_in.result) c.seen.ensures c.room_in.ensures)
