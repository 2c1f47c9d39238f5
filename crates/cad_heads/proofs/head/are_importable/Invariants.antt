use Rattle.std.proofs.Common.{◌≡◌, map, drop}
use Rattle.std.specs.List.{list_all}
use Rattle.cad_types.specs.Views.{declarations}
use Rattle.cad_declarations.specs.Views.{parameter_of}
use Rattle.cad_typing.specs.Types as classes
use Rattle.cad_heads.proofs.head.are_importable.Given as goal

abbrev pub invariant-loop-parameter : goal.invariant-loop-parameter
invariant-loop-parameter l =
    list_all (λ p. classes.is_importable (declarations l.types) p.type) (map parameter_of (drop l.parameter-index l.parameters))
    ≡ list_all (λ p. classes.is_importable (declarations l.types) p.type) (map parameter_of l.parameters)
