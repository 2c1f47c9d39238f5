-- Events.
use Rattle.std.specs.Prelude.{[], ◌∷◌, ◌++◌}
use Rattle.cad_values.specs.Forms.{is_told}
use Rattle.cad_values.specs.Values.{PureValue}
use Rattle.cad_world.specs.State.{Action, ok, require}

-- a value joins the events
abbrev pub told_of : PureValue → Action (Unit {0})
told_of v = require 134 (is_told v) (λ s. ok tt (record s { events = s.events ++ v ∷ [] }))
