use Rattle.std.proofs.Common.{ap, None, option_map, Some}
use Rattle.cad_declarations.specs.Views.{function_of, variable_of}
use Rattle.cad_calls.proofs.Laws.{after_made, after_plain}
use Rattle.cad_calls.proofs.pieces.test_after.Goals as goal

pub returns-then-initializes : goal.returns-then-initializes
returns-then-initializes g c =
    after_made (g.C.Callees.front c.args.callees.now) (g.C.Callees.calls c.args.callees.now) c.args.initializes (function_of c.args.function.now) c.args.state.now c.test_plain.new.state c.test_plain.result c.if-initializes.true c.test_plain.ensures

pub returns-in-Some : goal.returns-in-Some
returns-in-Some g c =
    after_plain (g.C.Callees.front c.args.callees.now) (g.C.Callees.calls c.args.callees.now) c.args.initializes (function_of c.args.function.now) (Some (variable_of c.in-Some.variable)) c.args.state.now c.with_result.new.state c.with_result.result c.if-initializes.false (ap (option_map variable_of) c.in-Some.is) c.with_result.ensures

pub returns-in-None : goal.returns-in-None
returns-in-None g c =
    after_plain (g.C.Callees.front c.args.callees.now) (g.C.Callees.calls c.args.callees.now) c.args.initializes (function_of c.args.function.now) None c.args.state.now c.test_plain-in-None.new.state c.test_plain-in-None.result c.if-initializes.false (ap (option_map variable_of) c.in-None.is) c.test_plain-in-None.ensures
