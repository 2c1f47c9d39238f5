use Rattle.cad_evaluation.specs.Ending.{dropped}
use Rattle.cad_outcomes.specs.Outcomes.{Gives, no_value}
use Rattle.cad_rows.specs.Views.{pure_tree}
use Rattle.std.proofs.Common.{subst}
use Rattle.cad_statement_leaves.proofs.moves.let_go.Goals as goal

pub returns : goal.returns
returns c =
    subst (λ t. Gives no_value (dropped (pure_tree t)) c.let_go.result) c.unboxed.ensures c.let_go.ensures
