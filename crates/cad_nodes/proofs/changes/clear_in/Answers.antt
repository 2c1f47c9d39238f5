use Rattle.cad_nodes.proofs.Found.{clears}
use Rattle.cad_nodes.proofs.changes.clear_in.Goals as goal

pub returns : goal.returns
returns c = clears c.args.label c.args.i c.args.state.now c.change.new.state c.change.result c.change.ensures
