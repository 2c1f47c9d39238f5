use Rattle.std.proofs.Common.{Bool, ap, ◌∙◌}
use Rattle.cad_capabilities.proofs.Acts.{carries_same}
use Rattle.cad_evaluation.specs.Accounts.{there}
use Rattle.cad_rows.specs.Views.{pure_row, pure_tree}
use Rattle.cad_state.specs.Views.{state_over}
use Rattle.cad_world.specs.State.{guard}
use Rattle.cad_capabilities.specs.Code.{published_argument}
use Rattle.cad_capabilities.proofs.publishing.publish.Goals as goal

pub returns-then-is_account : goal.returns-then-is_account
returns-then-is_account c =
    let rest = published_argument (pure_row c.args.row.now) c.args.address in
    carries_same pure_tree (there c.args.address rest) rest c.args.state.now c.publish_argument.new.state c.publish_argument.result
    (λ w. ap (λ (is : Bool). guard is rest (state_over w c.args.state.now)) (c.is_account.ensures w ∙ c.if-is_account.true))
    c.publish_argument.ensures
