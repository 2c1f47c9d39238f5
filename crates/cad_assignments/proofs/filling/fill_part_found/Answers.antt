use Rattle.std.proofs.Common.{ap, Err}
use Rattle.cad_evaluation.specs.Changing.{fill, fill_part}
use Rattle.cad_outcomes.specs.Outcomes.{no_value}
use Rattle.cad_rows.specs.Views.{pure_tree}
use Rattle.cad_state.specs.Views.{state_over}
use Rattle.cad_state.proofs.Finding.{find_same}
use Rattle.cad_world.specs.Locations.{part, slot_of}
use Rattle.cad_world.specs.Rows.{free}
use Rattle.cad_world.specs.State.{◌>>=◌}
use Rattle.cad_locations.specs.Code.Slots.{slot_seen}
use Rattle.cad_assignments.proofs.Fills.{part_filled, place_that}
use Rattle.cad_locations.proofs.Settled.{no_place}
use Rattle.cad_assignments.proofs.filling.fill_part_found.Goals as goal

pub returns-in-Ok-Free : goal.returns-in-Ok-Free
returns-in-Ok-Free c =
    let x = part c.args.label c.args.i in
    let t = pure_tree c.args.tree in
    find_same no_value (fill x t) (slot_of x >>= fill_part x t) c.args.state.now c.put_in.new.state c.put_in.result (λ accounts ready. part_filled c.args.label c.args.i t (state_over accounts c.args.state.now))
    (place_that slot_seen no_value x (fill_part x t) c.args.state.now c.put_in.new.state c.in-Ok-Free.field-0 free c.put_in.result c.in-Ok-Free.ensures (ap slot_seen c.in-Ok-Free.field-0-is) c.put_in.ensures)

pub returns-in-Err : goal.returns-in-Err
returns-in-Err c =
    let x = part c.args.label c.args.i in
    let t = pure_tree c.args.tree in
    find_same no_value (fill x t) (slot_of x >>= fill_part x t) c.args.state.now c.args.state.now (Err c.in-Err.stop) (λ accounts ready. part_filled c.args.label c.args.i t (state_over accounts c.args.state.now))
    (no_place slot_seen no_value x (fill_part x t) c.args.state.now c.args.state.now c.in-Err.stop c.in-Err.ensures)
