use Rattle.std.proofs.Common.{arith, true, false, map}
use Rattle.cad_fits.proofs.Each.{not_so, is_so}
use Rattle.cad_shapes.specs.Held.{shapes_of}
use Rattle.cad_state.specs.Views.{controller_of}
use Rattle.cad_world.specs.Sound.{SoundController}
use Rattle.cad_world_checks.proofs.AllOf.{one_fails, one_more, all_hold}
use Rattle.cad_world_checks.proofs.Soundness.{all_of}
use Rattle.cad_world_checks.proofs.sound.are_sound_controllers.Goals as goal

pub returns-then-not-is_sound_controller : goal.returns-then-not-is_sound_controller
returns-then-not-is_sound_controller c =
    all_of (SoundController (shapes_of c.args.shapes.now) c.args.next) false (map controller_of c.args.controllers.now)
    (one_fails (SoundController (shapes_of c.args.shapes.now) c.args.next) controller_of c.args.controllers.now c.loop-controller.controller-index c.controller-item.result (omega arith) c.controller-item.is (not_so c.is_sound_controller.result c.is_sound_controller.ensures c.if-not-is_sound_controller.true) c.loop-controller.invariant)

pub loop-controller-preserved : goal.loop-controller-preserved
loop-controller-preserved c = one_more (SoundController (shapes_of c.args.shapes.now) c.args.next) controller_of c.args.controllers.now c.loop-controller.controller-index c.controller-item.result (omega arith) c.controller-item.is (is_so c.is_sound_controller.result c.is_sound_controller.ensures c.if-not-is_sound_controller.false) c.loop-controller.invariant

pub returns : goal.returns
returns c = all_of (SoundController (shapes_of c.args.shapes.now) c.args.next) true (map controller_of c.args.controllers.now)
    (all_hold (SoundController (shapes_of c.args.shapes.now) c.args.next) controller_of c.args.controllers.now c.loop-controller.controller-index (omega arith) c.loop-controller.invariant)
