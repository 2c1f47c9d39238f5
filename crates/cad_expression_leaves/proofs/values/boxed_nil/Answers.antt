use Rattle.std.proofs.Common.{Ok, ap, sym}
use Rattle.cad_world.specs.State.{give, ok}
use Rattle.cad_world.specs.Trees.{nil_tree}
use Rattle.cad_expression_leaves.proofs.Boxing.{gives_boxed}
use Rattle.cad_expression_leaves.proofs.values.boxed_nil.Goals as goal

pub returns : goal.returns
returns c = gives_boxed (give nil_tree) (Ok c.nil_tree.result) c.boxed.result c.boxed.ensures (λ s. ap (λ t. ok t s) (sym c.nil_tree.ensures))
