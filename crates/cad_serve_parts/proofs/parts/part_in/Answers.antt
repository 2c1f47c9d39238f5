use Rattle.std.proofs.Common.{List, IfOk, subst}
use Rattle.cad_accounts.specs.Registers.{at}
use Rattle.cad_accounts.specs.declared.row.Row.{Row}
use Rattle.cad_world.specs.State as definition
use Rattle.cad_world_reading.specs.Wanted.{IsPartOf}
use Rattle.cad_worlds.specs.Standing.{StandsFor}
use Rattle.cad_serve_parts.proofs.parts.part_in.Goals as goal

pub returns : goal.returns
returns c =
    subst (λ (rows : List Row). IfOk c.known_part.result (λ part. (w : definition.World) → StandsFor (at rows) w → IsPartOf c.args.wanted.now w part)) c.blocks-2.ensures.rows c.known_part.ensures
