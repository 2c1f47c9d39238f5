use Rattle.cad_evaluation.specs.Builtins.{account_got, asserted, paid_for}
use Rattle.cad_outcomes.proofs.Steps.{gives_here}
use Rattle.cad_outcomes.specs.Outcomes.{Does}
use Rattle.cad_rows.specs.Views.{pure_row, pure_tree}
use Rattle.cad_state.specs.Views.{state_over}
use Rattle.cad_syntax.specs.Types.{pure_type}
use Rattle.cad_value_operations.proofs.GroupLaws.{paid_call}
use Rattle.cad_value_operations.proofs.Looks.{does_from}
use Rattle.cad_value_operations.specs.Code.Members.{by_called, call_member}
use Rattle.cad_value_operations.specs.declared.groups.Called.{Called}
use Rattle.std.proofs.Common.{map, subst, sym}
use Rattle.cad_value_operations.proofs.functions.function_of.Goals as goal

pub returns-in-Assert : goal.returns-in-Assert
returns-in-Assert c = λ w.
    let s = (state_over w c.args.state.now) in
    subst (λ (k : Called). Does pure_tree (by_called (map (λ t. pure_type t) c.args.types.now) (pure_row c.args.row.now) k) s s c.asserted.result) (sym c.in-Assert.is) (gives_here pure_tree (asserted (pure_row c.args.row.now)) c.asserted.result s c.asserted.ensures)

pub returns-in-Account : goal.returns-in-Account
returns-in-Account c = λ w.
    let s = (state_over w c.args.state.now) in
    subst (λ (k : Called). Does pure_tree (by_called (map (λ t. pure_type t) c.args.types.now) (pure_row c.args.row.now) k) s s c.account_got.result) (sym c.in-Account.is) (gives_here pure_tree (account_got (pure_row c.args.row.now)) c.account_got.result s c.account_got.ensures)

pub returns-in_default : goal.returns-in_default
returns-in_default c = λ w.
    let s = (state_over w c.args.state.now) in
    does_from pure_tree (by_called (map (λ t. pure_type t) c.args.types.now) (pure_row c.args.row.now) c.args.called) (paid_for 0 (call_member c.args.called (map (λ t. pure_type t) c.args.types.now) (pure_row c.args.row.now))) s s (state_over w c.paid_call.new.state) c.paid_call.result
    (paid_call (map (λ t. pure_type t) c.args.types.now) (pure_row c.args.row.now) c.args.called s c.in_default.not-Panic c.in_default.not-Assert c.in_default.not-Log c.in_default.not-Account) (c.paid_call.ensures w)
