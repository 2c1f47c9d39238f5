use Rattle.std.proofs.Common.{[], ◌∷◌, map, arith}
use Rattle.cad_rows.specs.Views.{pure_place, pure_tree}
use Rattle.cad_worlds.proofs.Sections.{grown, in_place, place_at}
use Rattle.cad_worlds.specs.Sections.{place_registers}
use Rattle.cad_worlds.specs.Standing.{register_of}
use Rattle.cad_worlds.proofs.writing.push_place.Goals as goal

pub returns-in_ok-row-in-len1-up : goal.returns-in_ok-row-in-len1-up
returns-in_ok-row-in-len1-up c =
    let row = c.in_ok-row-in-len1-up in
    grown c.push_row.result (map register_of c.push_row.new.rows.items) (map register_of c.args.rows.now.items) (register_of row.row ∷ []) (place_registers c.args.address c.args.names.now (pure_place c.args.place.now))
    (in_place c.args.address c.args.names.now (pure_place c.args.place.now) c.in-Full.field-0 (pure_tree c.in-Full.tree) c.name-item.result (register_of row.row) (place_at c.args.place.now c.in-Full.field-0 c.in-Full.tree c.in-Full.is) (omega arith) c.name-item.is row.ensures) c.push_row.ensures
