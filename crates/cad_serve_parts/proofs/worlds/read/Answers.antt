use Rattle.std.proofs.Common.{◌≡◌, true, List, IfOk, IfSome, sym, subst, ◌∙◌}
use Rattle.cad_accounts.specs.Registers.{at, are_rising}
use Rattle.cad_accounts.specs.declared.row.Row.{Row}
use Rattle.cad_worlds.specs.Standing.{StandsFor, world_of}
use Rattle.cad_serve_parts.proofs.Standings.{read_none}
use Rattle.cad_serve_parts.proofs.worlds.read.Goals as goal

pub returns-clause-found : goal.returns-clause-found
returns-clause-found c =
    subst (λ (rows : List Row). IfOk c.read_world-world.result (λ o. IfSome o (λ x. StandsFor (at rows) (world_of x)))) (c.of_blocks.ensures ∙ c.blocks-2.ensures.rows) c.read_world-world.ensures.found

pub returns-clause-none : goal.returns-clause-none
returns-clause-none c =
    let rising = subst (λ (rows : List Row). are_rising rows ≡ true) (sym c.of_blocks.ensures) c.blocks-2.ensures.rising in
    read_none c.read_world-world.result (λ v stands. c.read_world-world.ensures.only rising v (subst (λ (rows : List Row). StandsFor (at rows) v) (sym (c.of_blocks.ensures ∙ c.blocks-2.ensures.rows)) stands))
