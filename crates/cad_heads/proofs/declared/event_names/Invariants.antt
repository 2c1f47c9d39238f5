use Rattle.std.proofs.Common.{◌≡◌, ◌++◌, map, drop}
use Rattle.cad_grammar.specs.Views.{event_parameter_of}
use Rattle.cad_heads.proofs.declared.event_names.Given as goal

abbrev pub invariant-loop-parameter : goal.invariant-loop-parameter
invariant-loop-parameter l =
    map (λ n. n.now) l.all.items ++ map (λ p. p.parameter.name) (map event_parameter_of (drop l.parameter-index l.parameters))
    ≡ map (λ p. p.parameter.name) (map event_parameter_of l.parameters)
