use Rattle.std.proofs.Common.{map}
use Rattle.cad_fits.proofs.Each.{not_so, is_so}
use Rattle.cad_shapes.specs.Held.{shapes_of}
use Rattle.cad_state.specs.Views.{contract_of}
use Rattle.cad_world_checks.proofs.Soundness.{never}
use Rattle.cad_world_checks.proofs.WholeWorld.{contracts_so}
use Rattle.cad_world_checks.specs.Checks.{SoundContracts}
use Rattle.cad_world_checks.proofs.contracts.are_sound_contracts.Goals as goal

pub returns-then-not-branch : goal.returns-then-not-branch
returns-then-not-branch c =
    never {P = SoundContracts (shapes_of c.args.shapes.now) c.args.count (map contract_of c.args.contracts.now)} (λ s. not_so c.in_ok-is_each_sound.field-0 c.in_ok-is_each_sound.ensures c.if-not-branch.true s.1)

pub returns : goal.returns
returns c =
    contracts_so c.contracts_rise.result (shapes_of c.args.shapes.now) c.args.count (map contract_of c.args.contracts.now)
    (is_so c.in_ok-is_each_sound.field-0 c.in_ok-is_each_sound.ensures c.if-not-branch.false) c.contracts_rise.ensures
