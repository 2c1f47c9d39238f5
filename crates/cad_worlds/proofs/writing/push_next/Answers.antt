use Rattle.std.proofs.Common.{[], ◌∷◌, map, ap}
use Rattle.cad_wire.specs.Fields.{number_field}
use Rattle.cad_world.specs.Registers.{Register, register, next_key}
use Rattle.cad_worlds.proofs.Sections.{grown}
use Rattle.cad_worlds.specs.Standing.{register_of}
use Rattle.cad_worlds.proofs.writing.push_next.Goals as goal

pub returns : goal.returns
returns c =
    grown c.push_row.result (map register_of c.push_row.new.rows.items) (map register_of c.args.rows.now.items) (register_of c.in_ok-row.row ∷ []) (register (next_key c.args.address) (number_field c.args.number) ∷ [])
    (ap (λ (y : Register). y ∷ []) c.in_ok-row.ensures) c.push_row.ensures
