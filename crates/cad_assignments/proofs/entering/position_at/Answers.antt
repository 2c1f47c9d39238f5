use Rattle.std.proofs.Common.{subst}
use Rattle.cad_outcomes.specs.Outcomes.{Gives}
use Rattle.cad_rows.specs.Ways.{pure_node}
use Rattle.cad_values.specs.Values.{pure_value}
use Rattle.cad_assignments.specs.Code.Fills.{position_in}
use Rattle.cad_locations.proofs.Looks.{known_gives}
use Rattle.cad_assignments.proofs.entering.position_at.Goals as goal

pub returns-in-Some : goal.returns-in-Some
returns-in-Some c =
    known_gives (λ o. o) c.args.label (λ f. position_in (pure_value c.args.key.now) f.tree.shape) (pure_node c.in-Some.node) c.args.state.now c.position_in.result c.in-Some.ensures
    (subst (λ t. Gives (λ o. o) (position_in (pure_value c.args.key.now) t.shape) c.position_in.result) c.seen.ensures c.position_in.ensures)
