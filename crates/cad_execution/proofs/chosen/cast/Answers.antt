use Rattle.cad_declarations.specs.Views.{place_of}
use Rattle.cad_statement_leaves.proofs.ChoiceLaws.{cast_err, cast_ok}
use Rattle.cad_syntax.specs.Types.{pure_type}
use Rattle.cad_execution.proofs.chosen.cast.Goals as goal

pub returns-in-Ok : goal.returns-in-Ok
returns-in-Ok g c =
    cast_ok (g.C.Callees.front c.args.callees.now) (g.C.Callees.calls c.args.callees.now) (place_of c.args.place.now) (pure_type c.args.target.now) c.in-Ok.found c.args.state.now c.cast_value.new.state c.content_cast.new.state c.content_cast.result c.in-Ok.ensures c.content_cast.ensures

pub returns-in-Err : goal.returns-in-Err
returns-in-Err g c =
    cast_err (g.C.Callees.front c.args.callees.now) (g.C.Callees.calls c.args.callees.now) (place_of c.args.place.now) (pure_type c.args.target.now) c.args.state.now c.in-Err.stop c.in-Err.ensures
