use Rattle.std.proofs.Common.{◌≡◌, map, drop}
use Rattle.cad_grammar.specs.Views.{annotation_of}
use Rattle.cad_grammar.specs.Trees.{annotations_of}
use Rattle.cad_declarations.specs.Formed as spec
use Rattle.cad_scopes.specs.Views.{scope_of}
use Rattle.cad_scopes.proofs.formed.+arguments.Given as goal

abbrev pub invariant-have_right_arguments-loop-argument :
    goal.invariant-have_right_arguments-loop-argument
invariant-have_right_arguments-loop-argument l =
    spec.have_right_arguments (scope_of l.scope) (annotations_of (map annotation_of (drop l.argument-index l.arguments)))
    ≡ spec.have_right_arguments (scope_of l.scope) (annotations_of (map annotation_of l.arguments))
