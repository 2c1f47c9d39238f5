use Rattle.std.proofs.Common.{Bool, ap, ◌∙◌}
use Rattle.cad_capabilities.proofs.Acts.{carries_same}
use Rattle.cad_evaluation.specs.Accounts.{there}
use Rattle.cad_rows.specs.Views.{pure_row, pure_tree}
use Rattle.cad_state.specs.Views.{state_over}
use Rattle.cad_world.specs.State.{guard}
use Rattle.cad_capabilities.specs.Code.{unpublished_under}
use Rattle.cad_evaluation.specs.Arguments.{with_identifier}
use Rattle.cad_syntax.specs.declared.address.Domain.TheVariants as domain
use Rattle.cad_capabilities.proofs.publishing.unpublish.Goals as goal

pub returns-then-is_account : goal.returns-then-is_account
returns-then-is_account c =
    let rest = with_identifier domain.Public 0 (pure_row c.args.row.now) (unpublished_under c.args.address) in
    carries_same pure_tree (there c.args.address rest) rest c.args.state.now c.unpublish_argument.new.state c.unpublish_argument.result
    (λ w. ap (λ (is : Bool). guard is rest (state_over w c.args.state.now)) (c.is_account.ensures w ∙ c.if-is_account.true))
    c.unpublish_argument.ensures
