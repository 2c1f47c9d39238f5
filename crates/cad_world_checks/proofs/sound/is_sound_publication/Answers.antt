use Rattle.std.proofs.Common.{subst, arith}
use Rattle.std.specs.Str.{IsUtf8}
use Rattle.cad_shapes.specs.Held.{shapes_of}
use Rattle.cad_state.specs.Views.{publication_of}
use Rattle.cad_syntax.specs.Types.{pure_type}
use Rattle.cad_values.specs.Shapes.{is_reference_type}
use Rattle.cad_world.specs.Sound.{SoundPublication}
use Rattle.cad_world_checks.proofs.Soundness.{never, refuted, shown, published_sound}
use Rattle.cad_world_checks.proofs.sound.is_sound_publication.Goals as goal

pub returns-then-number-lt1 : goal.returns-then-number-lt1
returns-then-number-lt1 c = never {P = SoundPublication (shapes_of c.args.shapes.now) (publication_of c.args.publication.now)} (λ p. let one = p.from_one in omega (arith, one))

pub returns-then-not-is_reference_type : goal.returns-then-not-is_reference_type
returns-then-not-is_reference_type c =
    never {P = SoundPublication (shapes_of c.args.shapes.now) (publication_of c.args.publication.now)} (λ p. refuted c.is_reference_type.result (is_reference_type (pure_type c.args.publication.now.lent)) c.is_reference_type.ensures c.if-not-is_reference_type.true p.lent)

pub returns : goal.returns
returns c =
    published_sound c.is_type.result (shapes_of c.args.shapes.now) (publication_of c.args.publication.now) (subst IsUtf8 c.as_str-text.ensures c.as_str-text.utf8) (omega arith) (omega arith)
    (shown c.is_reference_type.result (is_reference_type (pure_type c.args.publication.now.lent)) c.is_reference_type.ensures c.if-not-is_reference_type.false) c.is_type.ensures
