use Rattle.std.proofs.Common.{ap, option_map}
use Rattle.cad_declarations.specs.Views.{block_of}
use Rattle.cad_calls.proofs.Runs.{exec_some}
use Rattle.cad_calls.proofs.functions.exec_body.Goals as goal

pub returns-in-Some : goal.returns-in-Some
returns-in-Some g c =
    exec_some (g.C.Callees.front c.args.callees.now) (g.C.Callees.calls c.args.callees.now) c.args.turns (option_map block_of c.args.body.now) (block_of c.in-Some.block) c.args.state.now c.exec_block.new.state c.exec_block.result (ap (option_map block_of) c.in-Some.is) c.exec_block.ensures
