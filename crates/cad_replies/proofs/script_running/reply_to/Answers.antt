use Rattle.std.proofs.Common.{map}
use Rattle.cad_state.specs.Views.{contract_of}
use Rattle.cad_values.specs.Shapes.{declarations}
use Rattle.cad_world.specs.Shapes.{shapes}
use Rattle.cad_replies.proofs.ScriptTold.{valued_so, stopped_so}
use Rattle.cad_replies.proofs.script_running.reply_to.Goals as goal

pub returns-in-Ok : goal.returns-in-Ok
returns-in-Ok c = valued_so (declarations (shapes (map contract_of c.args.contracts.now))) c.args.outcome c.in-Ok.value c.reply_to_value.result c.in-Ok.is c.reply_to_value.ensures

pub returns-in-Err : goal.returns-in-Err
returns-in-Err c = stopped_so (declarations (shapes (map contract_of c.args.contracts.now))) c.args.outcome c.in-Err.stop c.reply_to_stop.result c.in-Err.is c.reply_to_stop.ensures
