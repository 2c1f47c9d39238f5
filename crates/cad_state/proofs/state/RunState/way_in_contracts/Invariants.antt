use Rattle.std.proofs.Common.{◌≡◌, map, drop}
use Rattle.cad_world.specs.Labels as spec
use Rattle.cad_state.specs.Views.{contract_of}
use Rattle.cad_state.proofs.state.RunState.way_in_contracts.Given as goal

abbrev pub invariant-loop-i : goal.invariant-loop-i
invariant-loop-i l = spec.found_in_contracts l.label (map contract_of (drop l.i l.self.contracts.items)) ≡ spec.found_in_contracts l.label (map contract_of l.self.contracts.items)
