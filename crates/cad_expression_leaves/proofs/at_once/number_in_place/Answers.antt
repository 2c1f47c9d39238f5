use Rattle.cad_expression_leaves.proofs.Told.{place_copied}
use Rattle.cad_expression_leaves.proofs.at_once.number_in_place.Goals as goal

pub returns-in-Variable : goal.returns-in-Variable
returns-in-Variable c = place_copied c.args.place.now c.args.state.now _ c.variable_number.result c.in-Variable.is c.variable_number.ensures
