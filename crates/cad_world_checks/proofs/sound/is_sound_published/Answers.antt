use Rattle.std.proofs.Common.{map}
use Rattle.cad_shapes.specs.Held.{shapes_of}
use Rattle.cad_state.specs.Views.{publication_of}
use Rattle.cad_world_checks.proofs.Pairs.{published_rise}
use Rattle.cad_world_checks.proofs.Soundness.{never, refuted, shown, both_so}
use Rattle.cad_world_checks.specs.Checks.{SoundPublished}
use Rattle.cad_world_checks.proofs.sound.is_sound_published.Goals as goal

pub returns-then-not-publications_rise : goal.returns-then-not-publications_rise
returns-then-not-publications_rise c =
    never {P = SoundPublished (shapes_of c.args.shapes.now) (map publication_of c.args.published.now)} (λ s. refuted c.publications_rise.result (published_rise c.args.published.now) c.publications_rise.ensures c.if-not-publications_rise.true s.0)

pub returns : goal.returns
returns c =
    both_so c.are_sound_publications.result (shown c.publications_rise.result (published_rise c.args.published.now) c.publications_rise.ensures c.if-not-publications_rise.false) c.are_sound_publications.ensures
