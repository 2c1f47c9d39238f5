use Rattle.std.proofs.Common.{◌≡◌, ◌+◌, drop, map, option_map}
use Rattle.cad_values.specs.Values.{pure_value}
use Rattle.cad_world.specs.Locations as locations
use Rattle.cad_keys.proofs.keys.look.Given as goal

abbrev pub invariant-loop-i : goal.invariant-loop-i
invariant-loop-i l =
    option_map (λ n. l.i + n) (locations.key_position (pure_value l.key) (map pure_value (drop l.i l.rows))) ≡ locations.key_position (pure_value l.key) (map pure_value l.rows)
