use Rattle.std.proofs.Common.{◌≡◌, ◌<◌, ◌^◌, ◌-◌, map, min, max, drop}
use Rattle.cad_grammar.specs.Views.{event_parameter_of}
use Rattle.cad_heights.specs.Programs as spec
use Rattle.cad_heights.proofs.declarations.parameters_height.Given as goal

abbrev pub invariant-loop-parameter : goal.invariant-loop-parameter
invariant-loop-parameter l =
    (min (max l.found (spec.greatest spec.parameter_height (map event_parameter_of (drop l.parameter-index l.all)))) (2 ^ 64 - 1) ≡ min (spec.greatest spec.parameter_height (map event_parameter_of l.all)) (2 ^ 64 - 1)) × (l.found < 2 ^ 64)
