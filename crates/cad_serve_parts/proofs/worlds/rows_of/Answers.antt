use Rattle.std.proofs.Common.{◌≡◌, true, List, subst, ◌∙◌}
use Rattle.cad_accounts.specs.Registers.{at, are_rising}
use Rattle.cad_accounts.specs.declared.row.Row.{Row}
use Rattle.cad_worlds.specs.Standing.{StandsFor, world_of}
use Rattle.cad_serve_parts.proofs.Standings.{becomes_by}
use Rattle.cad_serve_parts.proofs.worlds.rows_of.Goals as goal

-- the rows that were read are those that were written (`as_slice`, `of_rows`)
pub returns-in-Some-clause-rising : goal.returns-in-Some-clause-rising
returns-in-Some-clause-rising c = subst (λ (rows : List Row). are_rising rows ≡ true) (c.of_rows.ensures ∙ c.as_slice.ensures.value) (rw c.in-Some.is at c.in_ok-sound.ensures.rising)

pub returns-in-Some-clause-becomes : goal.returns-in-Some-clause-becomes
returns-in-Some-clause-becomes c =
    let found = rw c.in-Some.is at c.in_ok-sound.ensures.found in
    let u = world_of c.in-Some.sound in
    let stands = subst (λ (rows : List Row). StandsFor (at rows) u) (c.of_rows.ensures ∙ c.as_slice.ensures.value) found in
    (u, stands, becomes_by c.in_ok-rows.rows.items (world_of c.args.world) u c.in_ok-rows.ensures stands)
