use Rattle.std.proofs.Common.{List, IfOk, sym, subst}
use Rattle.cad_accounts.specs.Registers.{at}
use Rattle.cad_accounts.specs.declared.row.Row.{Row}
use Rattle.cad_worlds.specs.Standing.{StandsFor, world_of}
use Rattle.cad_serve_parts.proofs.worlds.world_in.Goals as goal

pub known_world-requires-clause-stands : goal.known_world-requires-clause-stands
known_world-requires-clause-stands c = (c.requires.0, subst (λ (rows : List Row). StandsFor (at rows) c.requires.0) (sym c.blocks-2.ensures.rows) c.requires.1)

pub returns : goal.returns
returns c = subst (λ (rows : List Row). IfOk c.known_world.result (λ world. StandsFor (at rows) (world_of world))) c.blocks-2.ensures.rows c.known_world.ensures
