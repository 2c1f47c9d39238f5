use Rattle.std.proofs.Common.{Bool, IsTrue}
use Rattle.std.specs.Prelude.{◌↔◌}
use Rattle.cad_fits.proofs.Each.{not_so, is_so}
use Rattle.cad_shapes.specs.Held.{shapes_of}
use Rattle.cad_values.specs.Fits as of
use Rattle.cad_values.specs.Types.{type_of_value}
use Rattle.cad_values.specs.Values.{pure_value}
use Rattle.cad_world_checks.proofs.Soundness.{never, passed, both_so}
use Rattle.cad_world_checks.specs.Checks.{LastsAs}
use Rattle.cad_world_checks.proofs.sound.is_kept_value.Goals as goal

pub returns-then-not-can_last : goal.returns-then-not-can_last
returns-then-not-can_last c =
    never {P = LastsAs (shapes_of c.args.shapes.now) (pure_value c.args.value.now)} (λ l. not_so c.can_last.result c.can_last.ensures c.if-not-can_last.true l.0)

pub returns : goal.returns
returns c =
    let k = shapes_of c.args.shapes.now in
    let x = pure_value c.args.value.now in
    passed (λ (b : Bool). IsTrue b ↔ of.Fits k x (type_of_value x)) (λ (b : Bool). IsTrue b ↔ LastsAs k x) c.fits_itself.result
    (λ b tells. both_so b (is_so c.can_last.result c.can_last.ensures c.if-not-can_last.false) tells) c.fits_itself.ensures
