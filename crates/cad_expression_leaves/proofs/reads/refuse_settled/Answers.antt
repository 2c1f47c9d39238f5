use Rattle.std.proofs.Common.{Err, refl}
use Rattle.cad_outcomes.specs.declared.stop.Stop.TheVariants.{IllTyped}
use Rattle.cad_receivers.proofs.Passing.{look_stops, looked}
use Rattle.cad_receivers.specs.Views.{settled_of}
use Rattle.cad_rows.specs.Views.{pure_tree}
use Rattle.cad_rows.specs.declared.tree.Tree.{Tree}
use Rattle.cad_world.specs.Rows.{Tree as Node}
use Rattle.cad_world.specs.State.{stuck}
use Rattle.cad_expression_leaves.proofs.reads.refuse_settled.Goals as goal

pub returns-in-Ok : goal.returns-in-Ok
returns-in-Ok c = looked {C = Tree} pure_tree (settled_of c.args.receiver) (λ spot. stuck) c.in-Ok.field-0 c.args.state.now (Err IllTyped) c.in-Ok.ensures (λ w. refl)

pub returns-in-Err : goal.returns-in-Err
returns-in-Err c = look_stops {B = Node} (settled_of c.args.receiver) (λ spot. stuck) c.args.state.now c.in-Err.stop c.in-Err.ensures
