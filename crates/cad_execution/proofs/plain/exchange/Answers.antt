use Rattle.cad_declarations.specs.Views.{place_of, term_of, variable_of}
use Rattle.cad_statement_leaves.proofs.PlainLaws.{exchange_err, exchange_ok}
use Rattle.cad_syntax.specs.Types.{pure_type}
use Rattle.cad_execution.proofs.plain.exchange.Goals as goal

pub returns-in-Ok : goal.returns-in-Ok
returns-in-Ok g c =
    λ at n. exchange_ok (g.C.Callees.front c.args.callees.now) (g.C.Callees.calls c.args.callees.now) at n (variable_of c.args.variable.now) (place_of c.args.place.now) (pure_type c.args.of.now) (term_of c.args.value.now) c.in-Ok.location c.args.state.now c.first_location.new.state c.exchange_into-flow.new.state c.exchange_into-flow.result (g.met.C.Callees.keeps c.args.callees.now) c.in-Ok.ensures c.exchange_into-flow.ensures

pub returns-in-Err : goal.returns-in-Err
returns-in-Err g c =
    λ at n. exchange_err (g.C.Callees.front c.args.callees.now) (g.C.Callees.calls c.args.callees.now) at n (variable_of c.args.variable.now) (place_of c.args.place.now) (pure_type c.args.of.now) (term_of c.args.value.now) c.args.state.now c.in-Err.stop c.in-Err.ensures
