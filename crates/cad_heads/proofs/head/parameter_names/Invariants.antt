use Rattle.std.proofs.Common.{◌≡◌, ◌++◌, map, drop}
use Rattle.cad_grammar.specs.Views.{parameter_of}
use Rattle.cad_typing.specs.Functions as spec
use Rattle.cad_heads.proofs.head.parameter_names.Given as goal

abbrev pub invariant-loop-parameter : goal.invariant-loop-parameter
invariant-loop-parameter l =
    map (λ n. n.now) l.all.items ++ spec.parameter_names (map parameter_of (drop l.parameter-index l.parameters)) ≡ spec.parameter_names (map parameter_of l.parameters)
