use Rattle.cad_statement_leaves.proofs.Elements.{counter_filled}
use Rattle.cad_statement_leaves.proofs.moves.fill_counter.Goals as goal

pub returns : goal.returns
returns c =
    counter_filled c.args.number c.args.count c.count_tree.result c.args.state.now c.fill_variable.new.self c.fill_variable.result c.count_tree.ensures c.fill_variable.ensures
