-- What a reference leads to, before its type is told.
use Rattle.std.specs.Prelude.{ℕ, Option, Some, None}
use Rattle.cad_rows.specs.Views.{PlaceView, vacant, taken}
use Rattle.cad_world.specs.Rows.{NodeShape, link, Tree}
use Rattle.cad_syntax.specs.Types.{PureType}
use Rattle.cad_types.specs.Below.{below}
use Rattle.cad_world.specs.Declared.{declarations}
use Rattle.cad_world.specs.State.{Action, done, require}
use Rattle.cad_world.specs.Locations.{with_found}

-- the node to which a reference of this shape leads is there; of any other shape nothing is asked
abbrev pub settled : NodeShape → Action (Unit {0})
settled (link a l n) = with_found l (λ f. done)
settled _ = done

-- the label of the node to which a reference of this shape leads
abbrev pub label_in : NodeShape → Option ℕ
label_in (link a l n) = Some l
label_in _ = None

-- what has the first type may come to a container of values of the second
abbrev pub of_own : PureType → PureType → Action (Unit {0})
of_own own type = λ s. require 129 (below (declarations s) own type) done s

-- what stands in a place
abbrev pub tree_there : PlaceView → Option Tree
tree_there vacant = None
tree_there (taken l t) = Some t
