use Rattle.cad_syntax.specs.Types.{pure_type}
use Rattle.cad_declarations.specs.Views.{variable_of}
use Rattle.cad_calls.proofs.Laws.{fill_err, fill_ok}
use Rattle.cad_calls.proofs.pieces.fill_result.Goals as goal

pub returns-in-Ok : goal.returns-in-Ok
returns-in-Ok c =
    fill_ok (pure_type c.args.declared.now) (variable_of c.args.variable.now) c.in-Ok.value c.args.state.now c.result_value.new.state c.fill_variable.new.self c.fill_variable.result c.in-Ok.ensures c.fill_variable.ensures

pub returns-in-Err : goal.returns-in-Err
returns-in-Err c =
    fill_err (pure_type c.args.declared.now) (variable_of c.args.variable.now) c.args.state.now c.in-Err.stop c.in-Err.ensures
