use Rattle.std.proofs.Common.{◌≡◌, map, drop}
use Rattle.cad_scopes.specs.Views.{scope_of}
use Rattle.cad_grammar.specs.Trees.{annotations_of}
use Rattle.cad_declarations.specs.Points as p
use Rattle.cad_declarations.specs.Written as w
use Rattle.cad_grammar.specs.Views as g
use Rattle.cad_stop_points.proofs.expression_types.annotations_are_there.Given as goal

abbrev pub invariant-loop-annotation : goal.invariant-loop-annotation
invariant-loop-annotation l =
    p.types_are_there (scope_of l.scope) (w.types_in (annotations_of (map g.annotation_of (drop l.annotation-index l.all)))) ≡ p.types_are_there (scope_of l.scope) (w.types_in (annotations_of (map g.annotation_of l.all)))
