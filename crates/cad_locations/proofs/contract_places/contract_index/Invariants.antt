use Rattle.std.proofs.Common.{map}
use Rattle.cad_state.specs.Views.{contract_of}
use Rattle.cad_locations.specs.Code.Values.{NotBefore}
use Rattle.cad_locations.proofs.contract_places.contract_index.Given as goal

abbrev pub invariant-loop-i : goal.invariant-loop-i
invariant-loop-i l = NotBefore l.id l.i (map contract_of l.state.contracts.items)
