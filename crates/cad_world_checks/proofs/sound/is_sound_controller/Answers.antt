use Rattle.std.proofs.Common.{List, ℕ, IsTrue, ◌↔◌, subst, arith}
use Rattle.std.specs.Str.{IsUtf8}
use Rattle.cad_shapes.specs.Held.{shapes_of}
use Rattle.cad_state.specs.Views.{controller_of}
use Rattle.cad_syntax.specs.Types.{pure_type}
use Rattle.cad_values.specs.Shapes.{is_reference_type, is_type}
use Rattle.cad_world.specs.Sound.{SoundController}
use Rattle.cad_world_checks.proofs.Soundness.{never, refuted, shown, controlled_sound}
use Rattle.cad_world_checks.specs.Checks.{IsTag}
use Rattle.cad_world_checks.proofs.sound.is_sound_controller.Goals as goal

pub returns-then-number-lt1 : goal.returns-then-number-lt1
returns-then-number-lt1 c = never {P = SoundController (shapes_of c.args.shapes.now) c.args.next (controller_of c.args.controller.now)} (λ s. let one = s.from_one in omega (arith, one))

pub returns-then-not-is_reference_type : goal.returns-then-not-is_reference_type
returns-then-not-is_reference_type c =
    never {P = SoundController (shapes_of c.args.shapes.now) c.args.next (controller_of c.args.controller.now)} (λ s. refuted c.is_reference_type.result (is_reference_type (pure_type c.args.controller.now.borrow)) c.is_reference_type.ensures c.if-not-is_reference_type.true s.borrow)

pub returns-then-not-is_type : goal.returns-then-not-is_type
returns-then-not-is_type c =
    never {P = SoundController (shapes_of c.args.shapes.now) c.args.next (controller_of c.args.controller.now)} (λ s. refuted c.is_type.result (is_type (shapes_of c.args.shapes.now) (pure_type c.args.controller.now.borrow)) c.is_type.ensures c.if-not-is_type.true s.type)

pub returns : goal.returns
returns c =
    controlled_sound c.is_tag.result (shapes_of c.args.shapes.now) c.args.next (controller_of c.args.controller.now) (subst IsUtf8 c.as_str-text.ensures c.as_str-text.utf8) (omega arith) (omega arith)
    (shown c.is_reference_type.result (is_reference_type (pure_type c.args.controller.now.borrow)) c.is_reference_type.ensures c.if-not-is_reference_type.false)
    (shown c.is_type.result (is_type (shapes_of c.args.shapes.now) (pure_type c.args.controller.now.borrow)) c.is_type.ensures c.if-not-is_type.false)
    (subst (λ (tag : List ℕ). IsTrue c.is_tag.result ↔ IsTag tag) c.as_slice.ensures c.is_tag.ensures)
