use Rattle.cad_shapes.specs.Held.{shapes_of}
use Rattle.cad_values.specs.Values.{pure_value}
use Rattle.cad_fits.proofs.Below.{below_tells}
use Rattle.cad_fits.proofs.Contracts.{contract_refused, contract_so}
use Rattle.cad_fits.proofs.fit.fits_contract.Goals as goal

pub returns-then-not-own : goal.returns-then-not-own
returns-then-not-own c = contract_refused (shapes_of c.args.shapes.now) (below_tells c.args.shapes.now) (pure_value c.args.value.now) c.args.id.now c.in_ok-own.own c.in_ok-own.ensures c.if-not-own.true

pub returns : goal.returns
returns c = contract_so (shapes_of c.args.shapes.now) (below_tells c.args.shapes.now) (pure_value c.args.value.now) c.args.id.now c.in_ok-own.own c.in_ok-differ.differ c.in_ok-own.ensures c.if-not-own.false c.in_ok-differ.ensures
