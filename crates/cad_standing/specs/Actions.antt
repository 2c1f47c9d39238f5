-- Actions one behind the other, by a name.
use Rattle.cad_world.specs.State.{Action, ◌>>=◌}

-- the first, and then what is done with its value
abbrev pub and_then : {A B : Type 0} → Action A → (A → Action B) → Action B
and_then p f = p >>= f
