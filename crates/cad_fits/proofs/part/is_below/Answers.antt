use Rattle.std.proofs.Common.{◌∙◌, ap}
use Rattle.cad_syntax.specs.Types.{PureType, pure_type}
use Rattle.cad_types.specs.Below.{below}
use Rattle.cad_types.specs.Views.{declarations}
use Rattle.cad_values.specs.Shapes as shapes
use Rattle.cad_shapes.specs.Held.{shapes_of}
use Rattle.cad_fits.proofs.Below.{is_below_so}
use Rattle.cad_fits.proofs.part.is_below.Goals as goal

pub returns : goal.returns
returns c =
    let h = is_below_so c.args.shapes.now c.is_subtype.result (declarations c.types.result.now) (pure_type c.in_ok-own.own) (pure_type c.args.want.now) c.types.ensures.declared c.is_subtype.ensures in
    h ∙ ap (λ (w : PureType). below (shapes.declarations (shapes_of c.args.shapes.now)) w (pure_type c.args.want.now)) c.in_ok-own.ensures
