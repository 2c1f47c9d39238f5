use Rattle.std.proofs.Common.{arith, true, false, map}
use Rattle.cad_fits.proofs.Each.{not_so, is_so}
use Rattle.cad_shapes.specs.Held.{shapes_of}
use Rattle.cad_state.specs.Views.{publication_of}
use Rattle.cad_world.specs.Sound.{SoundPublication}
use Rattle.cad_world_checks.proofs.AllOf.{one_fails, one_more, all_hold}
use Rattle.cad_world_checks.proofs.Soundness.{all_of}
use Rattle.cad_world_checks.proofs.sound.are_sound_publications.Goals as goal

pub returns-then-not-is_sound_publication : goal.returns-then-not-is_sound_publication
returns-then-not-is_sound_publication c =
    all_of (SoundPublication (shapes_of c.args.shapes.now)) false (map publication_of c.args.published.now)
    (one_fails (SoundPublication (shapes_of c.args.shapes.now)) publication_of c.args.published.now c.loop-publication.publication-index c.publication-item.result (omega arith) c.publication-item.is (not_so c.is_sound_publication.result c.is_sound_publication.ensures c.if-not-is_sound_publication.true) c.loop-publication.invariant)

pub loop-publication-preserved : goal.loop-publication-preserved
loop-publication-preserved c = one_more (SoundPublication (shapes_of c.args.shapes.now)) publication_of c.args.published.now c.loop-publication.publication-index c.publication-item.result (omega arith) c.publication-item.is (is_so c.is_sound_publication.result c.is_sound_publication.ensures c.if-not-is_sound_publication.false) c.loop-publication.invariant

pub returns : goal.returns
returns c = all_of (SoundPublication (shapes_of c.args.shapes.now)) true (map publication_of c.args.published.now)
    (all_hold (SoundPublication (shapes_of c.args.shapes.now)) publication_of c.args.published.now c.loop-publication.publication-index (omega arith) c.loop-publication.invariant)
