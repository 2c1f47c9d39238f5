-- What becomes a receiver, in two steps: it is found out what the value is, and its node is named.
use Rattle.std.specs.Prelude.{ℕ, Option}
use Rattle.cad_syntax.specs.declared.types.Authorization.{Authorization}
use Rattle.cad_rows.specs.Views.{pure_shape}
use Rattle.cad_world.specs.Locations.{Location, name}
use Rattle.cad_world.specs.Receivers as r
use Rattle.cad_world.specs.State.{Action, ◌>>=◌, give}
use Rattle.cad_selections.specs.declared.arrivals.Arrival.{Arrival}
use Rattle.cad_selections.specs.declared.arrivals.Arrival.TheVariants as arrival

-- the node in a place, which is named
abbrev pub stood : Option Authorization → Location → ℕ → Action r.Receiver
stood rights x n = name x >>= (λ l. give (r.standing rights l n))

abbrev pub arrival_of : Option Authorization → Location → Arrival → Action r.Receiver
arrival_of rights x (arrival.Through shape) = give (r.through (pure_shape shape))
arrival_of rights x (arrival.Here n) = stood rights x n
arrival_of rights x arrival.Nil = give r.absent
