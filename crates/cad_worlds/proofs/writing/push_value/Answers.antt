use Rattle.std.proofs.Common.{map, ap}
use Rattle.cad_worlds.proofs.Sections.{grown, contents}
use Rattle.cad_worlds.specs.Sections.{fields_of}
use Rattle.cad_worlds.specs.Standing.{register_of}
use Rattle.cad_worlds.proofs.writing.push_value.Goals as goal

pub returns : goal.returns
returns c =
    let places = c.as_slice-places in
    grown c.push_contents.result (map register_of c.push_contents.new.rows.items) (map register_of c.args.rows.now.items) (contents c.args.contract.now.id places.result.now) (fields_of c.args.contract.now)
    (ap (contents c.args.contract.now.id) places.ensures.value) c.push_contents.ensures
