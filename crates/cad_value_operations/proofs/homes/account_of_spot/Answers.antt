use Rattle.cad_declarations.specs.Builtins.{own_account}
use Rattle.cad_evaluation.specs.Accounts.{account_reference}
use Rattle.cad_outcomes.specs.Outcomes.{Gives}
use Rattle.cad_rows.specs.Views.{pure_tree}
use Rattle.cad_syntax.specs.declared.type_id.TypeId.{TypeId}
use Rattle.cad_world.specs.State.{give, with_some}
use Rattle.std.proofs.Common.{Option, subst}
use Rattle.cad_value_operations.proofs.homes.account_of_spot.Goals as goal

pub returns-in-Some : goal.returns-in-Some
returns-in-Some c =
    subst (λ (o : Option TypeId). Gives pure_tree (with_some o (λ id. give (account_reference own_account id.address))) c.account_at.result) c.in-Some.ensures c.account_at.ensures
