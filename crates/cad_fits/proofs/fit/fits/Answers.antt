use Rattle.cad_shapes.specs.Held.{shapes_of}
use Rattle.cad_syntax.specs.Types.{pure_type}
use Rattle.cad_values.specs.Values.{pure_value}
use Rattle.cad_fits.proofs.Below.{below_tells}
use Rattle.cad_fits.proofs.Laws.{fit_fails, fit_so}
use Rattle.cad_fits.proofs.fit.fits.Goals as goal

pub returns-then-not-own : goal.returns-then-not-own
returns-then-not-own c = fit_fails (shapes_of c.args.shapes.now) (below_tells c.args.shapes.now) (pure_value c.args.value.now) (pure_type c.args.want.now) c.in_ok-own.own c.in_ok-own.ensures c.if-not-own.true

pub returns : goal.returns
returns c = fit_so (shapes_of c.args.shapes.now) (below_tells c.args.shapes.now) (pure_value c.args.value.now) (pure_type c.args.want.now) c.in_ok-own.own c.in_ok-differ.differ c.in_ok-own.ensures c.if-not-own.false c.in_ok-differ.ensures
