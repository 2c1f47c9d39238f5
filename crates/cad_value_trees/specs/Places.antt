-- The value in one place.
use Rattle.std.specs.Prelude.{List, [], ◌∷◌}
use Rattle.cad_values.specs.Values.{PureValue}
use Rattle.cad_world.specs.Trees.{value_of}
use Rattle.cad_rows.specs.Views.{PlaceView, vacant, taken}

-- none of an empty place
abbrev pub values_at : PlaceView → List PureValue
values_at vacant = []
values_at (taken l t) = value_of t ∷ []
