use Rattle.std.proofs.Common.{◌≡◌, ◌<◌, ◌^◌, ◌-◌, map, min, max, drop}
use Rattle.cad_values.specs.Values.{pure_value}
use Rattle.cad_world.specs.Trees as spec
use Rattle.cad_rows.proofs.size.keys_height.Given as goal

abbrev pub invariant-loop-key : goal.invariant-loop-key
invariant-loop-key l =
    (min (max l.highest (spec.keys_height (map pure_value (drop l.key-index l.keys)))) (2 ^ 64 - 1) ≡ min (spec.keys_height (map pure_value l.keys)) (2 ^ 64 - 1)) × (l.highest < 2 ^ 64)
