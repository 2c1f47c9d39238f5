use Rattle.std.proofs.Common.{Ok, ap, sym}
use Rattle.cad_evaluation.specs.Containers.{void_tree}
use Rattle.cad_execution.proofs.Passed.{gives_boxed}
use Rattle.cad_world.specs.State.{give, ok}
use Rattle.cad_calls.proofs.functions.void_value.Goals as goal

pub returns : goal.returns
returns c =
    gives_boxed (give void_tree) (Ok c.void_tree.result) c.boxed.result c.boxed.ensures (λ s. ap (λ t. ok t s) (sym c.void_tree.ensures))
