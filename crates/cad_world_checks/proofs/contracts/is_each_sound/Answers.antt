use Rattle.std.proofs.Common.{arith, true, false, map}
use Rattle.cad_fits.proofs.Each.{not_so, is_so}
use Rattle.cad_shapes.specs.Held.{shapes_of}
use Rattle.cad_state.specs.Views.{contract_of}
use Rattle.cad_world_checks.proofs.AllOf.{one_fails, one_more, all_hold}
use Rattle.cad_world_checks.proofs.Soundness.{all_of}
use Rattle.cad_world_checks.specs.Checks.{StandsThere}
use Rattle.cad_world_checks.proofs.contracts.is_each_sound.Goals as goal

pub returns-then-not-branch : goal.returns-then-not-branch
returns-then-not-branch c =
    all_of (StandsThere (shapes_of c.args.shapes.now) c.args.count) false (map contract_of c.args.contracts.now)
    (one_fails (StandsThere (shapes_of c.args.shapes.now) c.args.count) contract_of c.args.contracts.now c.loop-contract.contract-index c.contract-item.result (omega arith) c.contract-item.is (not_so c.in_ok-is_sound_contract.field-0 c.in_ok-is_sound_contract.ensures c.if-not-branch.true) c.loop-contract.invariant)

pub loop-contract-preserved : goal.loop-contract-preserved
loop-contract-preserved c = one_more (StandsThere (shapes_of c.args.shapes.now) c.args.count) contract_of c.args.contracts.now c.loop-contract.contract-index c.contract-item.result (omega arith) c.contract-item.is (is_so c.in_ok-is_sound_contract.field-0 c.in_ok-is_sound_contract.ensures c.if-not-branch.false) c.loop-contract.invariant

pub returns : goal.returns
returns c = all_of (StandsThere (shapes_of c.args.shapes.now) c.args.count) true (map contract_of c.args.contracts.now)
    (all_hold (StandsThere (shapes_of c.args.shapes.now) c.args.count) contract_of c.args.contracts.now c.loop-contract.contract-index (omega arith) c.loop-contract.invariant)
