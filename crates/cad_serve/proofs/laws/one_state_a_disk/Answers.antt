use Rattle.std.proofs.Common.{subst}
use Rattle.cad_accounts.specs.Registers.{Map}
use Rattle.cad_worlds.specs.Standing.{StandsFor}
use Rattle.cad_serve.proofs.laws.one_state_a_disk.Goals as goal

pub returns : goal.returns
returns c = λ disk v w a b. c.one_world.ensures b.map v w (subst (λ (m : Map). StandsFor m v) (λ i key. c.one_map_a_disk.ensures disk a.map b.map a.holds b.holds key i) a.stands) b.stands
