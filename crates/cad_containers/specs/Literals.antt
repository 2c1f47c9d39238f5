-- What the pairs of dictionary literals are.
use Rattle.cad_rows.specs.Views.{pure_tree}
use Rattle.cad_evaluation.specs.Uses as uses
use Rattle.cad_containers.specs.declared.literals.Pair.{Pair}

abbrev pub pure_pair : Pair → uses.Pair
pure_pair p = record { key = pure_tree p.key; value = pure_tree p.value }
