use Rattle.cad_statement_leaves.proofs.PlainLaws.{continue_err, continue_ok}
use Rattle.cad_execution.proofs.plain.continue_loop.Goals as goal

pub returns-in-Ok : goal.returns-in-Ok
returns-in-Ok c =
    continue_ok c.args.state.now c.tick.new.self c.in-Ok.ensures

pub returns-in-Err : goal.returns-in-Err
returns-in-Err c =
    continue_err c.args.state.now c.in-Err.stop c.in-Err.ensures
