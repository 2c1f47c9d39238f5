use Rattle.std.proofs.Common.{map, subst, sym}
use Rattle.cad_evaluation.specs.Standing.{element_at}
use Rattle.cad_locations.specs.Views.{location_of}
use Rattle.cad_outcomes.specs.Outcomes.{Gives}
use Rattle.cad_rows.specs.Views.{pure_shape, pure_tree}
use Rattle.cad_rows.specs.declared.tree.Shape.{Shape}
use Rattle.cad_syntax.specs.Types.{pure_type}
use Rattle.cad_values.specs.Values.{pure_value}
use Rattle.cad_standing.proofs.elements.location_in.Goals as goal

pub returns-in-Array : goal.returns-in-Array
returns-in-Array c =
    subst (λ (k : Shape). Gives location_of (element_at (pure_tree c.args.index.now) c.args.label (pure_shape k)) c.element_location.result) (sym c.in-Array.is) (c.element_location.ensures (pure_type c.in-Array.field-0))

pub returns-in-Dictionary : goal.returns-in-Dictionary
returns-in-Dictionary c =
    subst (λ (k : Shape). Gives location_of (element_at (pure_tree c.args.index.now) c.args.label (pure_shape k)) c.entry_location.result) (sym c.in-Dictionary.is)
    (c.entry_location.ensures (pure_type c.in-Dictionary.key) (pure_type c.in-Dictionary.value) (map pure_value c.in-Dictionary.keys))
