use Rattle.std.proofs.Common.{refl}
use Rattle.cad_declarations.specs.Views.{block_of}
use Rattle.cad_syntax.specs.Types.{basic}
use Rattle.cad_syntax.specs.declared.types.Basic.TheVariants as b
use Rattle.cad_command_runs.proofs.Entering.{value_err, value_ok}
use Rattle.cad_command_runs.proofs.entries.block_value.Goals as goal

pub returns-in-Ok : goal.returns-in-Ok
returns-in-Ok g c =
    value_ok (g.C.Callees.front c.args.callees.now) (g.C.Callees.calls c.args.callees.now) c.args.turns (block_of c.args.body.now) c.in-Ok.flow c.args.state.now c.run_block.new.state c.value_of_flow.result c.in-Ok.ensures (c.value_of_flow.ensures (basic b.Void) refl)

pub returns-in-Err : goal.returns-in-Err
returns-in-Err g c =
    value_err (g.C.Callees.front c.args.callees.now) (g.C.Callees.calls c.args.callees.now) c.args.turns (block_of c.args.body.now) c.args.state.now c.in-Err.stop c.in-Err.ensures
