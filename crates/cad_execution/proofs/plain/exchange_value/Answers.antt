use Rattle.cad_declarations.specs.Views.{term_of}
use Rattle.cad_locations.specs.Views.{location_of}
use Rattle.cad_statement_leaves.proofs.PlainLaws.{exchange_value_err, exchange_value_ok}
use Rattle.cad_syntax.specs.Types.{pure_type}
use Rattle.cad_execution.proofs.plain.exchange_value.Goals as goal

pub returns-in-Ok : goal.returns-in-Ok
returns-in-Ok g c =
    exchange_value_ok (g.C.Callees.front c.args.callees.now) (g.C.Callees.calls c.args.callees.now) (location_of c.args.location.now) (pure_type c.args.own.now) (term_of c.args.value.now) (pure_type c.args.target.now) c.in-Ok.tree c.args.state.now c.come.new.state c.exchange.new.state c.exchange.result (g.met.C.Callees.keeps c.args.callees.now) c.in-Ok.ensures c.exchange.ensures

pub returns-in-Err : goal.returns-in-Err
returns-in-Err g c =
    exchange_value_err (g.C.Callees.front c.args.callees.now) (g.C.Callees.calls c.args.callees.now) (location_of c.args.location.now) (pure_type c.args.own.now) (term_of c.args.value.now) (pure_type c.args.target.now) c.args.state.now c.in-Err.stop c.in-Err.ensures
