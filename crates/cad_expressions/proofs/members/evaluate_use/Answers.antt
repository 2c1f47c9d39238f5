use Rattle.cad_expressions.proofs.Arms.{method_arm, builtin_call_arm}
use Rattle.cad_expressions.proofs.Seconds.{get_arm, builtin_field_arm}
use Rattle.cad_expression_leaves.specs.Passed.{receiver_of}
use Rattle.cad_expressions.proofs.members.evaluate_use.Goals as goal

pub returns-in-Field : goal.returns-in-Field
returns-in-Field g c = get_arm (g.E.Evaluator.front c.args.evaluator.now) (g.E.Evaluator.calls c.args.evaluator.now) c.args.member.now _ _ (receiver_of c.args.receiver.now) c.args.state.now c.get_boxed.new.state c.get_boxed.result c.in-Field.is c.get_boxed.ensures

pub returns-in-Method : goal.returns-in-Method
returns-in-Method g c = method_arm (g.E.Evaluator.front c.args.evaluator.now) (g.E.Evaluator.calls c.args.evaluator.now) (receiver_of c.args.receiver.now) _ _ _ _ _ _ c.args.state.now c.method_use.new.state c.method_use.result c.in-Method.is c.as_slice.ensures.value (c.method_use.ensures _ _)

pub returns-in-BuiltinField : goal.returns-in-BuiltinField
returns-in-BuiltinField g c = builtin_field_arm (g.E.Evaluator.front c.args.evaluator.now) (g.E.Evaluator.calls c.args.evaluator.now) c.args.member.now _ (receiver_of c.args.receiver.now) c.args.state.now c.read_member.new.state c.read_member.result c.in-BuiltinField.is (c.read_member.ensures (g.E.Evaluator.front c.args.evaluator.now) (g.E.Evaluator.calls c.args.evaluator.now))

pub returns-in-BuiltinCall : goal.returns-in-BuiltinCall
returns-in-BuiltinCall g c = builtin_call_arm (g.E.Evaluator.front c.args.evaluator.now) (g.E.Evaluator.calls c.args.evaluator.now) (receiver_of c.args.receiver.now) _ _ _ _ _ _ c.args.state.now c.builtin_use.new.state c.builtin_use.result c.in-BuiltinCall.is c.as_slice-in-BuiltinCall.ensures.value c.as_slice-in-BuiltinCall-2.ensures.value c.builtin_use.ensures
