use Rattle.cad_declarations.specs.Views.{place_of}
use Rattle.cad_statement_leaves.proofs.ChoiceLaws.{cast_value_err, cast_value_ok}
use Rattle.cad_syntax.specs.Types.{pure_type}
use Rattle.cad_execution.proofs.chosen.cast_value.Goals as goal

pub returns-in-Ok : goal.returns-in-Ok
returns-in-Ok g c =
    cast_value_ok (g.C.Callees.front c.args.callees.now) (g.C.Callees.calls c.args.callees.now) (place_of c.args.place.now) (pure_type c.args.target.now) c.in-Ok.found c.args.state.now c.first_place.new.state c.cast_standing.new.state c.cast_standing.result (g.met.C.Callees.keeps c.args.callees.now) c.in-Ok.ensures c.cast_standing.ensures

pub returns-in-Err : goal.returns-in-Err
returns-in-Err g c =
    cast_value_err (g.C.Callees.front c.args.callees.now) (g.C.Callees.calls c.args.callees.now) (place_of c.args.place.now) (pure_type c.args.target.now) c.args.state.now c.in-Err.stop c.in-Err.ensures
