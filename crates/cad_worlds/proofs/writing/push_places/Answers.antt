use Rattle.std.proofs.Common.{◌++◌, map, arith, add-one}
use Rattle.cad_rows.specs.Views.{pure_row}
use Rattle.cad_world.specs.Registers.{stored_from, row_values}
use Rattle.cad_worlds.specs.Standing.{coding, register_of}
use Rattle.cad_worlds.proofs.Sections.{places_turn, places_end}
use Rattle.cad_worlds.proofs.writing.push_places.Goals as goal

pub loop-place-preserved : goal.loop-place-preserved
loop-place-preserved c =
    let all = map register_of c.args.rows.now.items ++ stored_from coding c.args.address c.args.names.now (row_values (pure_row c.args.places.now)) in
    rw add-one (places_turn c.args.address c.args.places.now c.loop-place.place-index c.place-item.result c.loop-place.left.now c.names_left-left.result.now (map register_of c.loop-place.rows.items) (map register_of c.push_place.new.rows.items) all c.loop-place-test.true c.place-item.is c.loop-place.invariant c.in_ok-push_place.ensures c.names_left-left.ensures)

pub returns : goal.returns
returns c =
    let all = map register_of c.args.rows.now.items ++ stored_from coding c.args.address c.args.names.now (row_values (pure_row c.args.places.now)) in
    places_end c.args.address c.args.places.now c.loop-place.place-index c.loop-place.left.now (map register_of c.loop-place.rows.items) all (omega arith) c.loop-place.invariant
