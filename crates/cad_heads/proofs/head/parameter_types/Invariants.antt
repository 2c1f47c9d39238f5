use Rattle.std.proofs.Common.{◌≡◌, ◌++◌, map, drop}
use Rattle.cad_grammar.specs.Views.{parameter_of}
use Rattle.cad_declarations.specs.Views.{parameter_of as typed_parameter}
use Rattle.cad_scopes.specs.Views.{scope_of}
use Rattle.cad_typing.specs.Functions as spec
use Rattle.cad_heads.proofs.head.parameter_types.Given as goal

abbrev pub invariant-loop-parameter : goal.invariant-loop-parameter
invariant-loop-parameter l =
    map typed_parameter l.all.items ++ spec.parameter_types (scope_of l.scope) (map parameter_of (drop l.parameter-index l.parameters))
    ≡ spec.parameter_types (scope_of l.scope) (map parameter_of l.parameters)
