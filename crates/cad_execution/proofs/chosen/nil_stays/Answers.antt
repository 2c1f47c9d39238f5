use Rattle.cad_statement_leaves.proofs.ChoiceLaws.{stays_some}
use Rattle.cad_execution.proofs.chosen.nil_stays.Goals as goal

pub returns-in-Some : goal.returns-in-Some
returns-in-Some c =
    stays_some c.args.moved c.in-Some.n c.nil_tree.result c.args.state.now c.fill_variable.new.self c.fill_variable.result c.in-Some.is c.nil_tree.ensures c.fill_variable.ensures
