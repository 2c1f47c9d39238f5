use Rattle.std.proofs.Common.{◌↔◌, map, drop}
use Rattle.std.specs.List.{AllByRecursion}
use Rattle.cad_shapes.specs.Held.{shapes_of}
use Rattle.cad_state.specs.Views.{contract_of}
use Rattle.cad_world_checks.specs.Checks.{StandsThere}
use Rattle.cad_world_checks.proofs.contracts.is_each_sound.Given as goal

abbrev pub invariant-loop-contract : goal.invariant-loop-contract
invariant-loop-contract l = AllByRecursion (StandsThere (shapes_of l.shapes) l.count) (map contract_of (drop l.contract-index l.contracts)) ↔ AllByRecursion (StandsThere (shapes_of l.shapes) l.count) (map contract_of l.contracts)
