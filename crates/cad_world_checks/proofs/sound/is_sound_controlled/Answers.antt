use Rattle.std.proofs.Common.{map}
use Rattle.cad_shapes.specs.Held.{shapes_of}
use Rattle.cad_state.specs.Views.{controller_of}
use Rattle.cad_world_checks.proofs.Pairs.{controlled_rise}
use Rattle.cad_world_checks.proofs.Soundness.{never, refuted, shown, both_so}
use Rattle.cad_world_checks.specs.Checks.{SoundControlled}
use Rattle.cad_world_checks.proofs.sound.is_sound_controlled.Goals as goal

pub returns-then-not-controllers_rise : goal.returns-then-not-controllers_rise
returns-then-not-controllers_rise c =
    never {P = SoundControlled (shapes_of c.args.shapes.now) c.args.next (map controller_of c.args.controllers.now)} (λ s. refuted c.controllers_rise.result (controlled_rise c.args.controllers.now) c.controllers_rise.ensures c.if-not-controllers_rise.true s.0)

pub returns : goal.returns
returns c =
    both_so c.are_sound_controllers.result (shown c.controllers_rise.result (controlled_rise c.args.controllers.now) c.controllers_rise.ensures c.if-not-controllers_rise.false) c.are_sound_controllers.ensures
