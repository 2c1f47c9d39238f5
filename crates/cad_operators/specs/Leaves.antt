-- What a tree without optionals and parts is.
use Rattle.std.specs.Prelude.{Option, Some, None}
use Rattle.cad_values.specs.Values.{PureValue}
use Rattle.cad_world.specs.Rows.{NodeShape, plain, Tree}
use Rattle.cad_evaluation.specs.Texts.{in_tree}

abbrev pub plain_in_shape : NodeShape → Option PureValue
plain_in_shape (plain v) = Some v
plain_in_shape _ = None

-- its value
abbrev pub plain_in : Tree → Option PureValue
plain_in t = in_tree Some t
