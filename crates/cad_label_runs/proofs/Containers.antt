-- Containers: what tells of them.
use Rattle.std.proofs.Common.{List, option_and_then, refl}
use Rattle.cad_values.specs.Values.{PureValue}
use Rattle.cad_world.specs.Locations.{key_position}
use Rattle.cad_world.specs.Rows.{Row, Tree}
use Rattle.cad_world.specs.Trees.{value_of}
use Rattle.cad_evaluation.specs.Containers.{equal_place, is_found, array_contains, array_first_index, contains_key}
use Rattle.cad_evaluation.specs.Numbers.{bool_tree}
use Rattle.cad_evaluation.specs.Texts.{int_tree, optional_tree}
use Rattle.cad_labels.specs.Laws.{HasNone, Keeps}
use Rattle.cad_labels.proofs.Forms.{keeps_give, optional_none}
use Rattle.cad_label_runs.proofs.Values.{then_within, int_none}

pub array_contains_keeps : (r : Row) (t : Tree) → Keeps HasNone (array_contains r t)
array_contains_keeps r t = keeps_give HasNone (bool_tree (is_found (equal_place (value_of t) 0 r))) (λ p. refl)

pub array_first_index_keeps : (r : Row) (t : Tree) → Keeps HasNone (array_first_index r t)
array_first_index_keeps r t = keeps_give HasNone (optional_tree (option_and_then int_tree (equal_place (value_of t) 0 r)))
    (optional_none (option_and_then int_tree (equal_place (value_of t) 0 r)) (then_within HasNone int_tree (equal_place (value_of t) 0 r) int_none))

pub contains_key_keeps : (ks : List PureValue) (t : Tree) → Keeps HasNone (contains_key ks t)
contains_key_keeps ks t = keeps_give HasNone (bool_tree (is_found (key_position (value_of t) ks))) (λ p. refl)
