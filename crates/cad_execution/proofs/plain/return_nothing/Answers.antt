use Rattle.cad_statement_leaves.proofs.PlainLaws.{return_err, return_ok}
use Rattle.cad_execution.proofs.plain.return_nothing.Goals as goal

pub returns-in-Ok : goal.returns-in-Ok
returns-in-Ok c =
    return_ok c.args.state.now c.tick.new.self c.void_tree.result c.give_back.result c.void_tree.ensures c.give_back.ensures c.in-Ok.ensures

pub returns-in-Err : goal.returns-in-Err
returns-in-Err c =
    return_err c.args.state.now c.in-Err.stop c.in-Err.ensures
