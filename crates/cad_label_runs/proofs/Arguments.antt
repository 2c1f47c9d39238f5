-- Arguments: labels are kept apart, and values in hand have none.
use Rattle.std.specs.Prelude.{List, [], ◌∷◌}
use Rattle.cad_syntax.specs.Types.{PureType}
use Rattle.cad_world.specs.Rows.{Row, Tree}
use Rattle.cad_world.specs.State.{Action}
use Rattle.cad_evaluation.specs.Arguments.{argument, with_arguments, with_type_argument}
use Rattle.cad_labels.specs.Laws.{HasNone, HasNoneInRow, Keeps}
use Rattle.cad_labels.proofs.Forms.{argument_none, keeps_stuck, keeps_within}

pub with_arguments_keeps : (x1 : Row) (x2 : Tree → Tree → Action Tree) → HasNoneInRow x1 → ((y0 : Tree) (y1 : Tree) → HasNone y0 → HasNone y1 → Keeps HasNone (x2 y0 y1)) → Keeps HasNone (with_arguments x1 x2)
with_arguments_keeps r f n0 h_f = keeps_within HasNone HasNone (argument 0 r) _ (argument_none 0 r n0) (λ a h_a. keeps_within HasNone HasNone (argument 1 r) _ (argument_none 1 r n0) (λ b h_b. h_f a b h_a h_b))

pub with_type_argument_keeps : (x1 : List PureType) (x2 : PureType → Action Tree) → ((y0 : PureType) → Keeps HasNone (x2 y0)) → Keeps HasNone (with_type_argument x1 x2)
with_type_argument_keeps (type ∷ []) f h_f = h_f type
with_type_argument_keeps _ f h_f = keeps_stuck HasNone
