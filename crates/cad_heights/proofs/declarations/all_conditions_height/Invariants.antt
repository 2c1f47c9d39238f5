use Rattle.std.proofs.Common.{◌≡◌, ◌<◌, ◌^◌, ◌-◌, map, min, max, drop}
use Rattle.cad_grammar.specs.Views.{condition_of}
use Rattle.cad_heights.specs.Programs as spec
use Rattle.cad_heights.proofs.declarations.all_conditions_height.Given as goal

abbrev pub invariant-loop-condition : goal.invariant-loop-condition
invariant-loop-condition l =
    (min (max l.found (spec.greatest spec.condition_height (map condition_of (drop l.condition-index l.all)))) (2 ^ 64 - 1) ≡ min (spec.greatest spec.condition_height (map condition_of l.all)) (2 ^ 64 - 1)) × (l.found < 2 ^ 64)
