use Rattle.std.proofs.Common.{◌≡◌, map, drop}
use Rattle.cad_syntax.specs.Types.{pure_type}
use Rattle.cad_grammar.specs.Views.{annotation_of}
use Rattle.cad_grammar.specs.Trees.{annotations_of}
use Rattle.cad_typing.specs.Calls as spec
use Rattle.cad_environment.specs.Views.{environment_of}
use Rattle.cad_infer_calls.proofs.Each.{behind}
use Rattle.cad_infer_calls.proofs.type_arguments.written_types.Given as goal

abbrev pub invariant-loop-written : goal.invariant-loop-written
invariant-loop-written l =
    behind (map pure_type l.all.items) (spec.written_types (environment_of l.env) (annotations_of (map annotation_of (drop l.written-index l.types))))
    ≡ spec.written_types (environment_of l.env) (annotations_of (map annotation_of l.types))
