use Rattle.cad_expression_leaves.proofs.Told.{number_there}
use Rattle.cad_expression_leaves.proofs.at_once.variable_number.Goals as goal

pub returns-in-Full : goal.returns-in-Full
returns-in-Full c = number_there c.args.state.now c.args.i c.variable.result _ c.number_alone.result c.variable.ensures c.in-Full.is c.number_alone.ensures
