use Rattle.std.proofs.Common.{Bool, IsTrue, refl}
use Rattle.std.specs.Prelude.{◌↔◌}
use Rattle.cad_fits.proofs.Each.{not_so, is_so}
use Rattle.cad_rows.specs.Views.{pure_tree}
use Rattle.cad_shapes.specs.Held.{shapes_of}
use Rattle.cad_world.specs.Fits.{FitsItself, Lasts}
use Rattle.cad_world.specs.Trees.{value_of}
use Rattle.cad_world_checks.proofs.Soundness.{never, passed, kept_tree, lasts_stands}
use Rattle.cad_world_checks.specs.Checks.{LastsAs}
use Rattle.cad_world_checks.proofs.sound.is_kept_tree.Goals as goal

pub returns-then-not-can_stand : goal.returns-then-not-can_stand
returns-then-not-can_stand c =
    let k = shapes_of c.args.shapes.now in
    let t = pure_tree c.args.tree.now in
    never {P = FitsItself k t × Lasts k t} (λ p. not_so c.can_stand.result c.can_stand.ensures c.if-not-can_stand.true (lasts_stands k t p.1))

pub returns : goal.returns
returns c =
    let k = shapes_of c.args.shapes.now in
    let t = pure_tree c.args.tree.now in
    passed (λ (b : Bool). IsTrue b ↔ LastsAs k (value_of t)) (λ (b : Bool). IsTrue b ↔ (FitsItself k t × Lasts k t)) c.is_kept_content.result
    (λ b tells. kept_tree b k t (value_of t) refl (is_so c.can_stand.result c.can_stand.ensures c.if-not-can_stand.false) tells) c.is_kept_content.ensures
