-- What stands in a place, as what a member is used on.
use Rattle.std.specs.Prelude.{ℕ, Option}
use Rattle.cad_syntax.specs.declared.types.Authorization.{Authorization}
use Rattle.cad_evaluation.specs.Standing.{without}
use Rattle.cad_world.specs.Locations.{Location, read}
use Rattle.cad_world.specs.Receivers as r
use Rattle.cad_world.specs.State.{Action, ◌>>=◌}

-- the value in a place without so many of its optionals, as a receiver
abbrev pub received : Option Authorization → Location → ℕ → Action r.Receiver
received rights x n = read x >>= (λ t. r.receiver_with rights x (without n t))
