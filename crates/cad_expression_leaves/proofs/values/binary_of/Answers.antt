use Rattle.std.proofs.Common.{ap, subst}
use Rattle.cad_rows.specs.Views.{pure_tree}
use Rattle.cad_evaluation.specs.Operators.{binary}
use Rattle.cad_rows.specs.declared.tree.Tree.{Tree}
use Rattle.cad_state.specs.Views.{CarriesOut}
use Rattle.cad_expression_leaves.proofs.Boxing.{boxed_any}
use Rattle.cad_expression_leaves.proofs.Going.{goes_stopped}
use Rattle.cad_expression_leaves.proofs.values.binary_of.Goals as goal

pub returns-in-Ok : goal.returns-in-Ok
returns-in-Ok c = boxed_any _ _ _ _ _ _ _ _ c.binary.result c.boxed.result c.in-Ok.is (ap pure_tree c.unboxed-second.ensures) c.boxed.ensures
    (subst (λ (t : Tree). CarriesOut pure_tree (binary c.args.operator (pure_tree t) (pure_tree c.unboxed-second.result)) c.args.state.now c.binary.new.state c.binary.result) c.unboxed-first.ensures c.binary.ensures)

pub returns-in-Err : goal.returns-in-Err
returns-in-Err c = goes_stopped _ _ _ _ _ _ _ _ c.in-Err.is
