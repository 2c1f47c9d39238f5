use Rattle.std.proofs.Common.{List, map, ap, sym, ◌∙◌}
use Rattle.cad_accounts.specs.Memory.{rows_in_blocks}
use Rattle.cad_accounts.specs.declared.row.Row.{Row}
use Rattle.cad_worlds.specs.Items.{empty_draft}
use Rattle.cad_worlds.specs.Standing.{register_of}
use Rattle.cad_world_registers.proofs.ReadBack.{known}
use Rattle.cad_world_registers.specs.Told.{all_made}
use Rattle.cad_world_reading.proofs.reading.known_world.Goals as goal

pub returns-in-Ok : goal.returns-in-Ok
returns-in-Ok c =
    let made = ap (λ (rows : List Row). all_made (map register_of rows) empty_draft) (sym c.of_blocks.ensures) ∙ c.in-Ok.ensures in
    known (rows_in_blocks c.args.blocks.now) c.in-Ok.parts c.requires.stands.0 c.made_of.result made c.requires.rising c.requires.stands.1 c.made_of.ensures
