use Rattle.std.proofs.Common.{option_map}
use Rattle.cad_rows.specs.Views.{pure_tree}
use Rattle.cad_nodes.proofs.Found.{changes_found, stops_found}
use Rattle.cad_nodes.proofs.changes.change.Goals as goal

pub returns-in-Ok-change_hinted : goal.returns-in-Ok-change_hinted
returns-in-Ok-change_hinted c =
    changes_found c.args.label c.args.edit (option_map pure_tree c.in-Ok-change_hinted.left) c.args.state.now c.find.new.state c.change_hinted.new.state c.in-Ok.ensures c.in-Ok-change_hinted.ensures

pub returns-in-Err : goal.returns-in-Err
returns-in-Err c = stops_found c.args.label c.args.edit c.args.state.now c.find.new.state c.in-Err.stop c.in-Err.ensures
