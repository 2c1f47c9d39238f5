use Rattle.cad_evaluation.specs.Accounts.{account_in_value}
use Rattle.cad_evaluation.specs.Texts.{in_tree}
use Rattle.cad_expression_leaves.proofs.Passed.{after_settled, settled_stops}
use Rattle.cad_expression_leaves.specs.Passed.{receiver_of}
use Rattle.cad_syntax.specs.declared.address.Address.{Address}
use Rattle.cad_syntax.specs.declared.types.Basic.TheVariants.{AccountContracts}
use Rattle.cad_world.specs.State.{give, with_some}
use Rattle.cad_expressions.proofs.uses.contracts_address.Goals as goal

pub returns-in-Ok : goal.returns-in-Ok
returns-in-Ok c =
    after_settled (λ (a : Address). a) (receiver_of c.args.receiver.now) (λ spot. with_some (in_tree (account_in_value AccountContracts) spot.tree) give) c.in-Ok.settled
    c.args.state.now c.settle_receiver.new.state c.settle_receiver.new.state c.contracts_account.result c.in-Ok.ensures c.contracts_account.ensures

pub returns-in-Err : goal.returns-in-Err
returns-in-Err c =
    settled_stops (λ (a : Address). a) (receiver_of c.args.receiver.now) (λ spot. with_some (in_tree (account_in_value AccountContracts) spot.tree) give)
    c.args.state.now c.settle_receiver.new.state c.settle_receiver.new.state c.in-Err.stop c.in-Err.ensures
