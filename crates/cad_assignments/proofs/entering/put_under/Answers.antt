use Rattle.std.proofs.Common.{subst}
use Rattle.cad_evaluation.specs.Changing.{put_at}
use Rattle.cad_outcomes.specs.Outcomes.{no_value}
use Rattle.cad_rows.specs.Views.{pure_tree}
use Rattle.cad_state.specs.Views.{state_over}
use Rattle.cad_state.proofs.Finding.{find_same}
use Rattle.cad_values.specs.Values.{pure_value}
use Rattle.cad_world.specs.Locations.{part, entry}
use Rattle.cad_locations.proofs.Spots.{MayBeIndex}
use Rattle.cad_assignments.proofs.Emptied.{put_place}
use Rattle.cad_assignments.proofs.entering.put_under.Goals as goal

pub returns-in-Ok-Some : goal.returns-in-Ok-Some
returns-in-Ok-Some c =
    let x = entry c.args.label (pure_value c.args.key.now) in
    let t = pure_tree c.args.tree in
    find_same no_value (put_at x t) (put_at (part c.args.label c.in-Ok-Some.i) t) c.args.state.now c.put_in.new.state c.put_in.result
    (λ accounts ready. put_place x c.args.label c.in-Ok-Some.i t (state_over accounts c.args.state.now) (subst (MayBeIndex x c.args.label c.args.state.now) c.in-Ok-Some.field-0-is c.in-Ok-Some.ensures accounts ready)) c.put_in.ensures
