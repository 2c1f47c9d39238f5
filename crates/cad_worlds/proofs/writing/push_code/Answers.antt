use Rattle.std.proofs.Common.{[], ◌∷◌, map, ap}
use Rattle.cad_world.specs.Registers.{Register}
use Rattle.cad_worlds.proofs.Sections.{grown}
use Rattle.cad_worlds.specs.Sections.{code_of}
use Rattle.cad_worlds.specs.Standing.{register_of}
use Rattle.cad_worlds.proofs.writing.push_code.Goals as goal

pub returns : goal.returns
returns c =
    grown c.push_row.result (map register_of c.push_row.new.rows.items) (map register_of c.args.rows.now.items) (register_of c.in_ok-row.row ∷ []) (code_of c.args.contract.now ∷ [])
    (ap (λ (y : Register). y ∷ []) c.in_ok-row.ensures) c.push_row.ensures
