use Rattle.cad_statement_leaves.proofs.PartLaws.{close_err}
use Rattle.cad_statement_leaves.specs.Views.{flow_of}
use Rattle.cad_statement_leaves.proofs.flow.close.Goals as goal

pub returns-in-Err : goal.returns-in-Err
returns-in-Err c =
    close_err c.args.first (flow_of c.args.flow) c.args.state.now c.in-Err.stop c.in-Err.ensures
