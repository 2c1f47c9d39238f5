use Rattle.std.proofs.Common.{◌≡◌, map, drop}
use Rattle.std.specs.List.{list_all}
use Rattle.cad_grammar.specs.Views.{parameter_of}
use Rattle.cad_scopes.specs.Views.{scope_of}
use Rattle.cad_typing.specs.Functions as spec
use Rattle.cad_heads.proofs.head.have_types.Given as goal

abbrev pub invariant-loop-parameter : goal.invariant-loop-parameter
invariant-loop-parameter l =
    list_all (λ p. spec.is_annotated (scope_of l.scope) p.annotation) (map parameter_of (drop l.parameter-index l.parameters))
    ≡ list_all (λ p. spec.is_annotated (scope_of l.scope) p.annotation) (map parameter_of l.parameters)
