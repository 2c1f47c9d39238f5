use Rattle.std.proofs.Common.{◌≡◌, ◌++◌, not, drop, filter, map}
use Rattle.cad_types.specs.Declarations.{declaration_of}
use Rattle.cad_types.specs.Views.{declarations}
use Rattle.cad_typing.specs.Types.{ids_of}
use Rattle.cad_type_classes.specs.Classes.{failing_beside, has_fields}
use Rattle.cad_type_classes.proofs.classes.failing_beside.Given as goal

abbrev pub invariant-loop-d : goal.invariant-loop-d
invariant-loop-d l =
    l.next ++ ids_of (filter (λ x. not (has_fields (declarations l.types) l.class l.ids x)) (map declaration_of (drop l.d-index l.declared)))
    ≡ failing_beside (declarations l.types) l.class l.ids
