use Rattle.std.proofs.Common.{sym, subst}
use Rattle.serde_json.specs.Data.{Data}
use Rattle.cad_fits.proofs.Below.{below_tells}
use Rattle.cad_json.specs.Read.{JsonOf}
use Rattle.cad_shapes.specs.Held.{shapes_of}
use Rattle.cad_syntax.specs.Types.{pure_type}
use Rattle.cad_json_laws.proofs.Again.{stands}
use Rattle.cad_json_laws.proofs.laws.import_told.Goals as goal

pub returns : goal.returns
returns c x whole e =
    let k = shapes_of c.args.shapes.now in
    let want = pure_type c.args.want.now in
    c.import.ensures.only x (subst (λ (d : Data). JsonOf k want x d) (sym e) (stands k (below_tells c.args.shapes.now) want x whole))
