use Rattle.std.proofs.Common.{[], ◌∷◌, map, ap, sym, ◌∙◌}
use Rattle.cad_rows.specs.Views.{pure_place}
use Rattle.cad_world.specs.Registers.{Register}
use Rattle.cad_worlds.proofs.Sections.{grown, place_at}
use Rattle.cad_worlds.specs.Sections.{place_fields}
use Rattle.cad_worlds.specs.Standing.{register_of}
use Rattle.cad_worlds.proofs.writing.push_content.Goals as goal

pub returns-in_ok-row-in-Full : goal.returns-in_ok-row-in-Full
returns-in_ok-row-in-Full c =
    grown c.push_row.result (map register_of c.push_row.new.rows.items) (map register_of c.args.rows.now.items) (register_of c.in_ok-row-in-Full.row ∷ []) (place_fields c.args.id.now (pure_place c.args.place.now))
    (ap (λ (y : Register). y ∷ []) c.in_ok-row-in-Full.ensures ∙ sym (ap (place_fields c.args.id.now) (place_at c.args.place.now c.in-Full.field-0 c.in-Full.tree c.in-Full.is))) c.push_row.ensures
