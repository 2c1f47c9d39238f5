use Rattle.cad_nodes.specs.declared.edit.Edit.TheVariants as e
use Rattle.cad_nodes.proofs.Found.{drops}
use Rattle.cad_nodes.proofs.changes.join_in.Goals as goal

pub returns : goal.returns
returns c = drops c.args.label (e.Join c.args.row) c.args.state.now c.change.new.state c.change.result c.drop_value.result c.drop_value.ensures c.change.ensures
