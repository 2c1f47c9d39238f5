use Rattle.cad_evaluation.specs.Flows.{is_case}
use Rattle.cad_rows.specs.Views.{pure_tree}
use Rattle.cad_state.specs.Views.{CarriesOut}
use Rattle.std.proofs.Common.{subst}
use Rattle.cad_statement_leaves.proofs.leaves.is_case.Goals as goal

pub returns : goal.returns
returns c =
    subst (λ t. CarriesOut (λ is. is) (is_case c.args.is_free (pure_tree c.args.value.now) (pure_tree t)) c.args.state.now c.case_with-is.new.state c.case_with-is.result) c.deref.ensures c.case_with-is.ensures
