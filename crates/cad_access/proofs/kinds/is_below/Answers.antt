use Rattle.cad_syntax.specs.Types.{pure_type}
use Rattle.cad_types.specs.Below.{below}
use Rattle.cad_types.specs.Sub.{Sub}
use Rattle.cad_types.specs.Views.{declarations}
use Rattle.cad_access.proofs.FieldTypes.{both_tell}
use Rattle.cad_access.proofs.kinds.is_below.Goals as goal

pub returns : goal.returns
returns c =
    let d = declarations c.args.kinds.now in
    let t = pure_type c.args.t.now in
    let u = pure_type c.args.u.now in
    both_tell (Sub d t u) _ (below d t u) c.is_subtype.ensures (c.order_needs_no_steps_between.ensures d c.args.kinds.now.closed t u)
