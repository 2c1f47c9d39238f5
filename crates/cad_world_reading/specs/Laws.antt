-- The law of Worlds as registers.
use Rattle.std.specs.Prelude.{◌≡◌}
use Rattle.cad_accounts.specs.Registers.{Map}
use Rattle.cad_world.specs.State.{World}
use Rattle.cad_worlds.specs.Standing.{StandsFor}

-- one map of registers stands for one World
abbrev pub OneWorld : Type 0
OneWorld = (m : Map) (w v : World) → StandsFor m w → StandsFor m v → w ≡ v
