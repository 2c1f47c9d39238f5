use Rattle.std.proofs.Common.{ap}
use Rattle.cad_evaluation.specs.Changing.{fill_part}
use Rattle.cad_outcomes.specs.Outcomes.{no_value}
use Rattle.cad_rows.specs.Views.{pure_tree}
use Rattle.cad_values.specs.Values.{pure_value}
use Rattle.cad_world.specs.Locations.{entry}
use Rattle.cad_world.specs.Rows.{free}
use Rattle.cad_locations.specs.Code.Slots.{slot_seen}
use Rattle.cad_assignments.proofs.Fills.{place_that}
use Rattle.cad_locations.proofs.Settled.{no_place}
use Rattle.cad_assignments.proofs.entering.fill_under.Goals as goal

pub returns-in-Ok-Free : goal.returns-in-Ok-Free
returns-in-Ok-Free c =
    let x = entry c.args.label (pure_value c.args.key.now) in
    place_that slot_seen no_value x (fill_part x (pure_tree c.args.tree)) c.args.state.now c.put_under.new.state c.in-Ok-Free.field-0 free c.put_under.result c.in-Ok-Free.ensures (ap slot_seen c.in-Ok-Free.field-0-is) c.put_under.ensures

pub returns-in-Err : goal.returns-in-Err
returns-in-Err c =
    let x = entry c.args.label (pure_value c.args.key.now) in
    no_place slot_seen no_value x (fill_part x (pure_tree c.args.tree)) c.args.state.now c.args.state.now c.in-Err.stop c.in-Err.ensures
