use Rattle.std.proofs.Common.{sym, ◌∙◌}
use Rattle.cad_fits.proofs.Each.{not_so, is_so}
use Rattle.cad_rows.specs.Views.{pure_tree}
use Rattle.cad_shapes.specs.Held.{shapes_of}
use Rattle.cad_world_checks.proofs.Soundness.{never}
use Rattle.cad_world_checks.specs.Checks.{CanStand}
use Rattle.cad_world_checks.proofs.sound.can_stand.Goals as goal

pub returns-then-not-is_of_value : goal.returns-then-not-is_of_value
returns-then-not-is_of_value c =
    never {P = CanStand (shapes_of c.args.shapes.now) (pure_tree c.args.tree.now)} (λ s. not_so c.is_of_value.result c.is_of_value.ensures c.if-not-is_of_value.true s.0)

pub returns : goal.returns
returns c =
    let own = is_so c.is_of_value.result c.is_of_value.ensures c.if-not-is_of_value.false in
    ((λ h. (own, sym c.has_identities.ensures ∙ h)), (λ s. c.has_identities.ensures ∙ s.1))
