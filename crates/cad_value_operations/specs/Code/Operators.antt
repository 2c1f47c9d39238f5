-- Operators on values in hand.
use Rattle.std.specs.Prelude.{nat_le, Bool}
use Rattle.cad_evaluation.specs.Casts as casts
use Rattle.cad_values.specs.Sizes.{most_high}
use Rattle.cad_world.specs.Receivers.{deref}
use Rattle.cad_world.specs.Rows.{NodeShape, Tree}
use Rattle.cad_world.specs.State.{Action, ◌>>=◌}
use Rattle.cad_world.specs.Trees.{tree_height}

-- what a reference leads to is copied
abbrev pub dereferenced : NodeShape → Action Tree
dereferenced shape = deref shape >>= casts.dereferenced

abbrev pub is_low : Tree → Bool
is_low t = nat_le (tree_height t) most_high
