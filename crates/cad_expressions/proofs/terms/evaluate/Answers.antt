use Rattle.cad_expression_leaves.proofs.Plain.{meta_arm}
use Rattle.cad_expressions.proofs.Arms.{copy_arm, take_arm, is_nil_arm, borrow_arm, array_arm, dictionary_arm, construct_arm, create_arm, call_arm, builtin_arm, on_arm, chain_arm, index_arm, hold_arm, destroy_arm, unary_arm, force_arm, cast_arm, binary_arm, coalesce_arm, conditional_arm}
use Rattle.cad_expressions.proofs.terms.evaluate.Goals as goal

pub returns-in-Number : goal.returns-in-Number
returns-in-Number g c = c.literal.ensures (g.E.Evaluator.front c.args.evaluator.now) (g.E.Evaluator.calls c.args.evaluator.now)

pub returns-in-Meta : goal.returns-in-Meta
returns-in-Meta g c = meta_arm (g.E.Evaluator.front c.args.evaluator.now) (g.E.Evaluator.calls c.args.evaluator.now) c.args.term.now c.args.state.now c.call_type.new.state c.call_type.result _ c.in-Meta.is c.call_type.ensures

pub returns-in-Copy : goal.returns-in-Copy
returns-in-Copy g c = copy_arm (g.E.Evaluator.front c.args.evaluator.now) (g.E.Evaluator.calls c.args.evaluator.now) _ _ _ c.args.state.now c.copy_form.new.state c.copy_form.result c.in-Copy.is c.deref.ensures c.copy_form.ensures

pub returns-in-Take : goal.returns-in-Take
returns-in-Take g c = take_arm (g.E.Evaluator.front c.args.evaluator.now) (g.E.Evaluator.calls c.args.evaluator.now) _ _ _ c.args.state.now c.take_form.new.state c.take_form.result c.in-Take.is c.deref-in-Take.ensures c.take_form.ensures

pub returns-in-IsNil : goal.returns-in-IsNil
returns-in-IsNil g c = is_nil_arm (g.E.Evaluator.front c.args.evaluator.now) (g.E.Evaluator.calls c.args.evaluator.now) _ _ _ _ c.args.state.now c.nil_form.new.state c.nil_form.result c.in-IsNil.is c.deref-in-IsNil.ensures c.nil_form.ensures

pub returns-in-Borrow : goal.returns-in-Borrow
returns-in-Borrow g c = borrow_arm (g.E.Evaluator.front c.args.evaluator.now) (g.E.Evaluator.calls c.args.evaluator.now) _ _ _ _ _ _ _ c.args.state.now c.borrow_form.new.state c.borrow_form.result c.in-Borrow.is c.deref-in-Borrow.ensures (c.borrow_form.ensures _)

pub returns-in-Array : goal.returns-in-Array
returns-in-Array g c = array_arm (g.E.Evaluator.front c.args.evaluator.now) (g.E.Evaluator.calls c.args.evaluator.now) _ _ _ _ c.args.state.now c.array_form.new.state c.array_form.result c.in-Array.is c.as_slice.ensures.value c.array_form.ensures

pub returns-in-Dictionary : goal.returns-in-Dictionary
returns-in-Dictionary g c = dictionary_arm (g.E.Evaluator.front c.args.evaluator.now) (g.E.Evaluator.calls c.args.evaluator.now) _ _ _ _ _ c.args.state.now c.dictionary_form.new.state c.dictionary_form.result c.in-Dictionary.is c.as_slice-in-Dictionary.ensures.value c.dictionary_form.ensures

pub returns-in-Construct : goal.returns-in-Construct
returns-in-Construct g c = construct_arm (g.E.Evaluator.front c.args.evaluator.now) (g.E.Evaluator.calls c.args.evaluator.now) _ _ _ _ c.args.state.now c.construct_form.new.state c.construct_form.result c.in-Construct.is c.as_slice-in-Construct.ensures.value c.construct_form.ensures

pub returns-in-Create : goal.returns-in-Create
returns-in-Create g c = create_arm (g.E.Evaluator.front c.args.evaluator.now) (g.E.Evaluator.calls c.args.evaluator.now) _ _ _ _ c.args.state.now c.create_form.new.state c.create_form.result c.in-Create.is c.as_slice-in-Create.ensures.value c.create_form.ensures

pub returns-in-Call : goal.returns-in-Call
returns-in-Call g c = call_arm (g.E.Evaluator.front c.args.evaluator.now) (g.E.Evaluator.calls c.args.evaluator.now) _ _ _ _ _ _ c.args.state.now c.call_form.new.state c.call_form.result c.in-Call.is c.as_slice-in-Call.ensures.value (c.call_form.ensures _ _)

pub returns-in-Builtin : goal.returns-in-Builtin
returns-in-Builtin g c = builtin_arm (g.E.Evaluator.front c.args.evaluator.now) (g.E.Evaluator.calls c.args.evaluator.now) _ _ _ _ _ _ c.args.state.now c.builtin_form.new.state c.builtin_form.result c.in-Builtin.is c.as_slice-in-Builtin.ensures.value c.as_slice-in-Builtin-2.ensures.value c.builtin_form.ensures

pub returns-in-On : goal.returns-in-On
returns-in-On g c = on_arm (g.E.Evaluator.front c.args.evaluator.now) (g.E.Evaluator.calls c.args.evaluator.now) _ _ _ _ _ c.args.state.now c.use_form.new.state c.use_form.result c.in-On.is c.deref-in-On.ensures c.deref-in-On-2.ensures c.use_form.ensures

pub returns-in-Chain : goal.returns-in-Chain
returns-in-Chain g c = chain_arm (g.E.Evaluator.front c.args.evaluator.now) (g.E.Evaluator.calls c.args.evaluator.now) _ _ _ _ _ _ c.args.state.now c.chain_form.new.state c.chain_form.result c.in-Chain.is c.deref-in-Chain.ensures c.deref-in-Chain-2.ensures c.chain_form.ensures

pub returns-in-Index : goal.returns-in-Index
returns-in-Index g c = index_arm (g.E.Evaluator.front c.args.evaluator.now) (g.E.Evaluator.calls c.args.evaluator.now) _ _ _ _ _ _ c.args.state.now c.index_form.new.state c.index_form.result c.in-Index.is c.deref-in-Index.ensures c.deref-in-Index-2.ensures (c.index_form.ensures _)

pub returns-in-Hold : goal.returns-in-Hold
returns-in-Hold g c = hold_arm (g.E.Evaluator.front c.args.evaluator.now) (g.E.Evaluator.calls c.args.evaluator.now) _ _ _ _ _ _ _ c.args.state.now c.hold_form.new.state c.hold_form.result c.in-Hold.is c.deref-in-Hold.ensures c.deref-in-Hold-2.ensures (c.hold_form.ensures _)

pub returns-in-Destroy : goal.returns-in-Destroy
returns-in-Destroy g c = destroy_arm (g.E.Evaluator.front c.args.evaluator.now) (g.E.Evaluator.calls c.args.evaluator.now) _ _ _ c.args.state.now c.destroy_form.new.state c.destroy_form.result c.in-Destroy.is c.deref-in-Destroy.ensures c.destroy_form.ensures

pub returns-in-Unary : goal.returns-in-Unary
returns-in-Unary g c = unary_arm (g.E.Evaluator.front c.args.evaluator.now) (g.E.Evaluator.calls c.args.evaluator.now) _ _ _ _ c.args.state.now c.unary_form.new.state c.unary_form.result c.in-Unary.is c.deref-in-Unary.ensures c.unary_form.ensures

pub returns-in-Force : goal.returns-in-Force
returns-in-Force g c = force_arm (g.E.Evaluator.front c.args.evaluator.now) (g.E.Evaluator.calls c.args.evaluator.now) _ _ _ c.args.state.now c.force_form.new.state c.force_form.result c.in-Force.is c.deref-in-Force.ensures c.force_form.ensures

pub returns-in-Cast : goal.returns-in-Cast
returns-in-Cast g c = cast_arm (g.E.Evaluator.front c.args.evaluator.now) (g.E.Evaluator.calls c.args.evaluator.now) _ _ _ _ _ c.args.state.now c.cast_form.new.state c.cast_form.result c.in-Cast.is c.deref-in-Cast.ensures c.cast_form.ensures

pub returns-in-Binary : goal.returns-in-Binary
returns-in-Binary g c = binary_arm (g.E.Evaluator.front c.args.evaluator.now) (g.E.Evaluator.calls c.args.evaluator.now) _ _ _ _ _ _ c.args.state.now c.binary_form.new.state c.binary_form.result c.in-Binary.is c.deref-in-Binary.ensures c.deref-in-Binary-2.ensures c.binary_form.ensures

pub returns-in-Coalesce : goal.returns-in-Coalesce
returns-in-Coalesce g c = coalesce_arm (g.E.Evaluator.front c.args.evaluator.now) (g.E.Evaluator.calls c.args.evaluator.now) _ _ _ _ _ _ _ c.args.state.now c.coalesce_form.new.state c.coalesce_form.result c.in-Coalesce.is c.deref-in-Coalesce.ensures c.deref-in-Coalesce-2.ensures c.coalesce_form.ensures

pub returns-in-Conditional : goal.returns-in-Conditional
returns-in-Conditional g c = conditional_arm (g.E.Evaluator.front c.args.evaluator.now) (g.E.Evaluator.calls c.args.evaluator.now) _ _ _ _ _ _ _ c.args.state.now c.conditional_form.new.state c.conditional_form.result c.in-Conditional.is c.deref-in-Conditional.ensures c.deref-in-Conditional-2.ensures c.deref-in-Conditional-3.ensures c.conditional_form.ensures
