use Rattle.cad_evaluation.specs.Adding.{add}
use Rattle.cad_expression_leaves.proofs.Adding.{adds_there, adds_nowhere}
use Rattle.cad_expression_leaves.specs.Passed.{receiver_of}
use Rattle.cad_rows.specs.Views.{pure_row}
use Rattle.cad_syntax.specs.declared.types.Basic.TheVariants.{AccountContracts}
use Rattle.cad_expressions.proofs.uses.add_contract.Goals as goal

pub returns-in-Ok : goal.returns-in-Ok
returns-in-Ok g c =
    adds_there AccountContracts (receiver_of c.args.receiver.now) (add (g.E.Evaluator.front c.args.evaluator.now) (g.E.Evaluator.calls c.args.evaluator.now) (pure_row c.args.row.items)) c.in-Ok.address
    c.args.state.now c.contracts_address.new.state c.add.new.state c.add.result c.in-Ok.ensures c.add.ensures

pub returns-in-Err : goal.returns-in-Err
returns-in-Err g c =
    adds_nowhere AccountContracts (receiver_of c.args.receiver.now) (add (g.E.Evaluator.front c.args.evaluator.now) (g.E.Evaluator.calls c.args.evaluator.now) (pure_row c.args.row.items))
    c.args.state.now c.contracts_address.new.state c.contracts_address.new.state c.in-Err.stop c.in-Err.ensures
