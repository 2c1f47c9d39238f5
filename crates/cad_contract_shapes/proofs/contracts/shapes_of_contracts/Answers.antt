use Rattle.std.proofs.Common.{map}
use Rattle.cad_shapes.specs.Views.{pure_shape}
use Rattle.cad_state.specs.Views.{contract_of}
use Rattle.cad_world.specs.Shapes.{shapes}
use Rattle.cad_contract_shapes.proofs.Told.{held_so}
use Rattle.cad_contract_shapes.proofs.contracts.shapes_of_contracts.Goals as goal

pub returns : goal.returns
returns c =
    held_so c.judged.result (map pure_shape c.in_ok-shapes.shapes.items) c.in_ok-entitlements.entitlements (shapes (map contract_of c.args.contracts.now)) c.in_ok-shapes.ensures c.in_ok-entitlements.ensures
    c.judged.ensures
