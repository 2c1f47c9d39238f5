use Rattle.std.proofs.Common.{IsTrue, subst}
use Rattle.std.specs.Prelude.{IfOk, ◌↔◌}
use Rattle.cad_shapes.specs.Held.{shapes_of}
use Rattle.cad_syntax.specs.Types.{PureType}
use Rattle.cad_values.specs.Fits as of
use Rattle.cad_values.specs.Values.{pure_value}
use Rattle.cad_world_checks.proofs.sound.fits_itself.Goals as goal

pub returns : goal.returns
returns c =
    subst (λ (t : PureType). IfOk c.fits-fit.result (λ b. IsTrue b ↔ of.Fits (shapes_of c.args.shapes.now) (pure_value c.args.value.now) t)) c.in_ok-own.ensures c.fits-fit.ensures
