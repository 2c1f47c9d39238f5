use Rattle.cad_rows.specs.Views.{pure_row}
use Rattle.cad_statement_leaves.proofs.PartLaws.{event_err, event_ok}
use Rattle.cad_statement_leaves.proofs.leaves.event_value.Goals as goal

pub returns-in-Ok : goal.returns-in-Ok
returns-in-Ok c =
    event_ok c.args.id.now (pure_row c.args.row.items) c.args.state.now c.tick.new.self c.tick.new.self c.event.result c.in-Ok.ensures c.event.ensures

pub returns-in-Err : goal.returns-in-Err
returns-in-Err c =
    event_err c.args.id.now (pure_row c.args.row.items) c.args.state.now c.in-Err.stop c.in-Err.ensures
