use Rattle.std.proofs.Common.{◌≡◌, ◌+◌, drop, option_map}
use Rattle.cad_world.specs.Labels as spec
use Rattle.cad_run_accounts.proofs.names.position_of.Given as goal

abbrev pub invariant-loop-i : goal.invariant-loop-i
invariant-loop-i l = option_map (λ n. l.i + n) (spec.position_of l.name (drop l.i l.names)) ≡ spec.position_of l.name l.names
