use Rattle.std.proofs.Common.{◌++◌, map, add-one, arith}
use Rattle.cad_worlds.proofs.Sections.{contents, contents_turn, contents_end}
use Rattle.cad_worlds.specs.Standing.{register_of}
use Rattle.cad_worlds.proofs.writing.push_contents.Goals as goal

pub loop-place-preserved : goal.loop-place-preserved
loop-place-preserved c =
    let all = map register_of c.args.rows.now.items ++ contents c.args.id.now c.args.places.now in
    rw add-one (contents_turn c.args.id.now c.args.places.now c.loop-place.place-index c.place-item.result (map register_of c.loop-place.rows.items) (map register_of c.push_content.new.rows.items) all (omega arith) c.place-item.is c.loop-place.invariant c.in_ok-push_content.ensures)

pub returns : goal.returns
returns c =
    let all = map register_of c.args.rows.now.items ++ contents c.args.id.now c.args.places.now in
    contents_end c.args.id.now c.args.places.now c.loop-place.place-index (map register_of c.loop-place.rows.items) all (omega arith) c.loop-place.invariant
