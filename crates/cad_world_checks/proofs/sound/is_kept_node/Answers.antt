use Rattle.std.proofs.Common.{Bool, IsTrue, subst}
use Rattle.std.specs.Str.{IsUtf8}
use Rattle.std.specs.Prelude.{◌↔◌}
use Rattle.cad_fits.proofs.Each.{not_so, is_so}
use Rattle.cad_rows.specs.Views.{pure_tree, taken}
use Rattle.cad_shapes.specs.Held.{shapes_of}
use Rattle.cad_world.specs.Fits.{FitsItself, Lasts}
use Rattle.cad_world_checks.proofs.Soundness.{never, passed, kept_place}
use Rattle.cad_world_checks.specs.Checks.{IsKept}
use Rattle.cad_world_checks.proofs.sound.is_kept_node.Goals as goal

pub returns-then-not-is_empty : goal.returns-then-not-is_empty
returns-then-not-is_empty c = never {P = IsKept (shapes_of c.args.shapes.now) c.args.name.now (taken c.args.labels.now (pure_tree c.args.tree.now))} (λ kept. not_so c.is_empty.result c.is_empty.ensures c.if-not-is_empty.true kept.0)

pub returns : goal.returns
returns c =
    let k = shapes_of c.args.shapes.now in
    let t = pure_tree c.args.tree.now in
    passed (λ (b : Bool). IsTrue b ↔ (FitsItself k t × Lasts k t)) (λ (b : Bool). IsTrue b ↔ IsKept k c.args.name.now (taken c.args.labels.now t)) c.is_kept_tree.result
    (λ b tells. kept_place b k c.args.name.now c.args.labels.now t (is_so c.is_empty.result c.is_empty.ensures c.if-not-is_empty.false) (subst IsUtf8 c.as_str-text.ensures c.as_str-text.utf8) tells) c.is_kept_tree.ensures
