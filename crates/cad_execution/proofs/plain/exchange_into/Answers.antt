use Rattle.cad_declarations.specs.Views.{term_of, variable_of}
use Rattle.cad_locations.specs.Views.{location_of}
use Rattle.cad_statement_leaves.proofs.PlainLaws.{exchange_into_err, exchange_into_ok}
use Rattle.cad_syntax.specs.Types.{pure_type}
use Rattle.cad_execution.proofs.plain.exchange_into.Goals as goal

pub returns-in-Ok : goal.returns-in-Ok
returns-in-Ok g c =
    exchange_into_ok (g.C.Callees.front c.args.callees.now) (g.C.Callees.calls c.args.callees.now) (location_of c.args.location.now) (variable_of c.args.variable.now) (term_of c.args.value.now) (pure_type c.args.target.now) c.in-Ok.old c.args.state.now c.exchange_value.new.state c.fill_variable.new.state c.fill_variable.result c.next.result c.in-Ok.ensures c.fill_variable.ensures c.next.ensures

pub returns-in-Err : goal.returns-in-Err
returns-in-Err g c =
    exchange_into_err (g.C.Callees.front c.args.callees.now) (g.C.Callees.calls c.args.callees.now) (location_of c.args.location.now) (variable_of c.args.variable.now) (term_of c.args.value.now) (pure_type c.args.target.now) c.args.state.now c.in-Err.stop c.in-Err.ensures
