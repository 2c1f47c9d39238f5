use Rattle.std.proofs.Common.{◌≡◌, true, false, refl}
use Rattle.cad_worlds.specs.Standing.{world_of}
use Rattle.cad_serve_parts.proofs.worlds.WorldsJudge.is_good.Goals as goal

pub returns-in-Some : goal.returns-in-Some
returns-in-Some c = (λ t. (world_of c.in-Some.world, rw c.in-Some.is at c.in_ok-world.ensures.found), λ h. refl)

pub returns-in-None : goal.returns-in-None
returns-in-None c = (λ t. let wrong : false ≡ true = t in cc wrong, λ h. absurd ((rw c.in-None.is at c.in_ok-world.ensures.none) h))
