use Rattle.std.proofs.Common.{◌≡◌, map, drop}
use Rattle.std.specs.List.{list_all}
use Rattle.cad_grammar.specs.Views.{event_parameter_of}
use Rattle.cad_declarations.specs.Views.{tables_of}
use Rattle.cad_typing.specs.Heads as spec
use Rattle.cad_heads.proofs.declared.event_fields.Given as goal

abbrev pub invariant-loop-parameter : goal.invariant-loop-parameter
invariant-loop-parameter l =
    list_all (λ p. spec.event_field (tables_of l.known.tables.now) p.parameter) (map event_parameter_of (drop l.parameter-index l.parameters))
    ≡ list_all (λ p. spec.event_field (tables_of l.known.tables.now) p.parameter) (map event_parameter_of l.parameters)
