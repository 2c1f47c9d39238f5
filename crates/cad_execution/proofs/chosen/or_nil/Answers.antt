use Rattle.cad_statement_leaves.proofs.ChoiceLaws.{nil_or, nil_or_err}
use Rattle.cad_execution.proofs.chosen.or_nil.Goals as goal

pub returns-in-Ok : goal.returns-in-Ok
returns-in-Ok c =
    nil_or c.args.moved c.args.found c.args.state.now c.nil_stays.new.state c.in-None.is c.in-Ok.ensures

pub returns-in-Err : goal.returns-in-Err
returns-in-Err c =
    nil_or_err c.args.moved c.args.found c.args.state.now c.in-Err.stop c.in-None.is c.in-Err.ensures
