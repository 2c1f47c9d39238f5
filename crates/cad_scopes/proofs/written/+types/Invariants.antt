use Rattle.std.proofs.Common.{◌≡◌, map, drop}
use Rattle.cad_syntax.specs.Types.{pure_type}
use Rattle.cad_grammar.specs.Views.{annotation_of}
use Rattle.cad_grammar.specs.Trees.{annotations_of}
use Rattle.cad_declarations.specs.Scopes as spec
use Rattle.cad_scopes.specs.Views.{scope_of}
use Rattle.cad_scopes.proofs.Each.{behind}
use Rattle.cad_scopes.proofs.written.+types.Given as goal

abbrev pub invariant-written_arguments-loop-argument :
    goal.invariant-written_arguments-loop-argument
invariant-written_arguments-loop-argument l =
    behind (map pure_type l.all.items) (spec.written_types (scope_of l.scope) (annotations_of (map annotation_of (drop l.argument-index l.arguments))))
    ≡ spec.written_types (scope_of l.scope) (annotations_of (map annotation_of l.arguments))
