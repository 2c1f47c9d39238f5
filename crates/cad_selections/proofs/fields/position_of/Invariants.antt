use Rattle.std.proofs.Common.{◌≡◌, ◌+◌, drop, option_map}
use Rattle.cad_world.specs.Labels.{position_of}
use Rattle.cad_selections.proofs.fields.position_of.Given as goal

abbrev pub invariant-loop-i : goal.invariant-loop-i
invariant-loop-i l = option_map (λ n. l.i + n) (position_of l.name (drop l.i l.names)) ≡ position_of l.name l.names
