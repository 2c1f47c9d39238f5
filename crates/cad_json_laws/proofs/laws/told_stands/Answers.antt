use Rattle.cad_shapes.specs.Held.{shapes_of}
use Rattle.cad_fits.proofs.Below.{below_tells}
use Rattle.cad_json_laws.proofs.Again.{stands}
use Rattle.cad_json_laws.proofs.laws.told_stands.Goals as goal

pub returns : goal.returns
returns c = stands (shapes_of c.args.shapes.now) (below_tells c.args.shapes.now)
