use Rattle.std.proofs.Common.{option_map, ap}
use Rattle.cad_declarations.specs.Views.{term_of}
use Rattle.cad_calls.proofs.Laws.{message_some}
use Rattle.cad_calls.proofs.conditions.evaluate_message.Goals as goal

pub returns-in-Some : goal.returns-in-Some
returns-in-Some g c =
    message_some (g.C.Callees.front c.args.callees.now) (g.C.Callees.calls c.args.callees.now) (option_map term_of c.args.message.now) (term_of c.in-Some.message) c.args.state.now c.evaluate.new.state c.evaluate.result (ap (option_map term_of) c.in-Some.is) c.evaluate.ensures
