use Rattle.std.proofs.Common.{◌≡◌, List, Some, option_map, subst}
use Rattle.cad_evaluation.specs.Arguments.{argument}
use Rattle.cad_rows.specs.Views.{pure_row}
use Rattle.cad_rows.specs.declared.tree.Place.{Place}
use Rattle.cad_values.specs.Values.{pure_value}
use Rattle.cad_world.specs.Trees.{value_of}
use Rattle.cad_containers.proofs.dictionary_changes.change_dictionary.Goals as goal

pub returns-in-Some : goal.returns-in-Some
returns-in-Some c =
    c.change_under.ensures (subst (λ (ps : List Place). option_map value_of (argument 0 (pure_row ps)) ≡ Some (pure_value c.in-Some.key)) c.as_slice.ensures.value c.in-Some.ensures)
