use Rattle.cad_rows.specs.Views.{pure_tree}
use Rattle.cad_statement_leaves.proofs.ChoiceLaws.{content_err, content_ok}
use Rattle.cad_execution.proofs.chosen.open_or_nil.Goals as goal

pub returns-in-Ok : goal.returns-in-Ok
returns-in-Ok c =
    content_ok c.args.moved (pure_tree c.args.tree) c.in-Ok.found c.args.state.now c.or_nil.new.state c.or_nil.result c.in-Ok.ensures c.or_nil.ensures

pub returns-in-Err : goal.returns-in-Err
returns-in-Err c =
    content_err c.args.moved (pure_tree c.args.tree) c.args.state.now c.in-Err.stop c.in-Err.ensures
