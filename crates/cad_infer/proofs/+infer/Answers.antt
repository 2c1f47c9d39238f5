use Rattle.std.proofs.Common.{rules, arith, map, ◌∙◌, ap, sym, Some}
use Rattle.cad_declarations.specs.Typed.{arguments_of}
use Rattle.cad_declarations.specs.Views.{argument_of}
use Rattle.cad_typing.specs.Environments.{when}
use Rattle.std.specs.Prelude.{option_map}
use Rattle.cad_environment.specs.Views.{environment_of, typing_of}
use Rattle.cad_infer_calls.specs.Views.{call_view}
use Rattle.cad_parameters.specs.Views.{count_view, parameter_view}
use Rattle.cad_infer_containers.specs.Views.{next_of}
use Rattle.cad_infer.proofs.Arms.{alone_arm, tested_arm, create_made, self_place_arm, call_arm, force_arm, arithmetical_arm, bitwise_arm, ordering_arm, equality_arm, logical_arm, coalescing_arm, left_nil_arm, right_nil_arm, member_place_arm, chain_place_arm, index_place_arm}
use Rattle.cad_infer.proofs.Turns.{arguments_turn, arguments_end, arguments_stop, arguments_last, elements_turn, elements_stop, elements_last, entries_turn, entries_stop, entries_last}
use Rattle.cad_infer_parts.specs.Views.{expected_of}
use Rattle.cad_infer.proofs.+infer.Goals as goal

pub rows::push_arguments-loop-a-preserved : goal.rows::push_arguments-loop-a-preserved
rows::push_arguments-loop-a-preserved t c =
    arguments_turn (environment_of c.loop-a.inner) _ (count_view c.args.count) (map parameter_view c.loop-a.left.now) (next_of c.in-Some.next) c.args.all.now c.loop-a.a-index c.a-item.result (search rules) c.a-item.is
    c.loop-a.found.items _ _ _ c.in_ok-push_argument.ensures (search rules) (search rules) (search rules) c.loop-a.invariant

pub rows::push_arguments-returns-in_default : goal.rows::push_arguments-returns-in_default
rows::push_arguments-returns-in_default t c =
    arguments_end (environment_of c.loop-a.inner) (count_view c.args.count) (map parameter_view c.loop-a.left.now) c.args.all.now c.loop-a.a-index c.a-item.result (search rules) c.a-item.is _ _ (search rules) c.loop-a.invariant

pub rows::push_arguments-returns-in_default-2 : goal.rows::push_arguments-returns-in_default-2
rows::push_arguments-returns-in_default-2 t c =
    arguments_stop (environment_of c.loop-a.inner) (count_view c.args.count) (map parameter_view c.loop-a.left.now) (next_of c.in-Some.next) c.args.all.now c.loop-a.a-index c.a-item.result (search rules) c.a-item.is _ _ (search rules) (search rules) c.loop-a.invariant

pub rows::push_arguments-returns : goal.rows::push_arguments-returns
rows::push_arguments-returns t c =
    ap (λ b. when b (Some (arguments_of (map argument_of c.loop-a.found.items)))) c.may_end.ensures ∙ arguments_last (environment_of c.loop-a.inner) (count_view c.args.count) (map parameter_view c.loop-a.left.now) c.args.all.now c.loop-a.a-index (omega arith) _ _ c.loop-a.invariant

pub rows::push_elements-loop-a-preserved : goal.rows::push_elements-loop-a-preserved
rows::push_elements-loop-a-preserved t c =
    elements_turn (environment_of c.loop-a.inner) _ (expected_of c.args.expected) c.args.all.now c.loop-a.a-index c.a-item.result (search rules) c.a-item.is
    c.loop-a.found.items _ _ _ c.in_ok-push_typing.ensures (search rules) (search rules) c.loop-a.invariant

pub rows::push_elements-returns-in_default : goal.rows::push_elements-returns-in_default
rows::push_elements-returns-in_default t c =
    elements_stop (environment_of c.loop-a.inner) (expected_of c.args.expected) c.args.all.now c.loop-a.a-index c.a-item.result (search rules) c.a-item.is _ _ (search rules) c.loop-a.invariant

pub rows::push_elements-returns : goal.rows::push_elements-returns
rows::push_elements-returns t c = elements_last (environment_of c.loop-a.inner) (expected_of c.args.expected) c.args.all.now c.loop-a.a-index (omega arith) _ _ c.loop-a.invariant

pub rows::push_entries-loop-entry-preserved : goal.rows::push_entries-loop-entry-preserved
rows::push_entries-loop-entry-preserved t c =
    entries_turn (environment_of c.loop-entry.inner) _ (expected_of c.args.key) (expected_of c.args.value) c.args.all.now c.loop-entry.entry-index c.entry-item.result (search rules) c.entry-item.is
    c.loop-entry.found.items _ _ _ c.in_ok-push_pair.ensures (search rules) (search rules) c.loop-entry.invariant

pub rows::push_entries-returns-in_default : goal.rows::push_entries-returns-in_default
rows::push_entries-returns-in_default t c =
    entries_stop (environment_of c.loop-entry.inner) (expected_of c.args.key) (expected_of c.args.value) c.args.all.now c.loop-entry.entry-index c.entry-item.result (search rules) c.entry-item.is _ _ (search rules) c.loop-entry.invariant

pub rows::push_entries-returns : goal.rows::push_entries-returns
rows::push_entries-returns t c = entries_last (environment_of c.loop-entry.inner) (expected_of c.args.key) (expected_of c.args.value) c.args.all.now c.loop-entry.entry-index (omega arith) _ _ c.loop-entry.invariant

pub expression::typing-returns-in_ok-alone-in-Whole : goal.expression::typing-returns-in_ok-alone-in-Whole
expression::typing-returns-in_ok-alone-in-Whole t c = alone_arm _ _ _ _ _ _ c.in-Whole.is c.flat-in-Whole.ensures c.in_ok-alone-in-Whole.ensures

pub expression::typing-returns-in_ok-call-in-Call : goal.expression::typing-returns-in_ok-call-in-Call
expression::typing-returns-in_ok-call-in-Call t c = call_arm _ _ _ _ _ _ _ _ _ _ _ _ _ c.in-Call.is c.in_ok-call-in-Call.ensures c.in_ok-made-in-Call.ensures c.deref-in-Call-4.ensures c.deref-in-Call.ensures c.deref-in-Call-2.ensures.value c.deref-in-Call-3.ensures.value

pub expression::typing-returns-in_ok-force_then-in-Force : goal.expression::typing-returns-in_ok-force_then-in-Force
expression::typing-returns-in_ok-force_then-in-Force t c = force_arm _ _ _ _ _ _ _ _ _ c.in-Force.is c.in_ok-force_then-in-Force.ensures c.in_ok-x-in-Force.ensures c.deref-in-Force-2.ensures c.deref-in-Force.ensures

pub operators::binary-returns-in_ok-right_operand-in-Arithmetical : goal.operators::binary-returns-in_ok-right_operand-in-Arithmetical
operators::binary-returns-in_ok-right_operand-in-Arithmetical t c = arithmetical_arm _ _ _ _ _ _ _ _ _ _ _ _ _ _ _ c.in-Binary.is c.in_ok-right_operand-in-Arithmetical.ensures c.in-Arithmetical.is c.operator_family.ensures c.in_ok-x-in-Arithmetical.ensures c.deref-in-Arithmetical-3.ensures c.deref-in-Arithmetical.ensures c.deref-in-Arithmetical-2.ensures c.deref.ensures c.deref-in-Binary.ensures

pub operators::binary-returns-in_ok-right_operand-in-Bitwise : goal.operators::binary-returns-in_ok-right_operand-in-Bitwise
operators::binary-returns-in_ok-right_operand-in-Bitwise t c = bitwise_arm _ _ _ _ _ _ _ _ _ _ _ _ _ _ _ c.in-Binary.is c.in_ok-right_operand-in-Bitwise.ensures c.in-Bitwise.is c.operator_family.ensures c.in_ok-x-in-Bitwise.ensures c.deref-in-Bitwise-3.ensures c.deref-in-Bitwise.ensures c.deref-in-Bitwise-2.ensures c.deref.ensures c.deref-in-Binary.ensures

pub operators::binary-returns-in_ok-right_operand-in-Ordering : goal.operators::binary-returns-in_ok-right_operand-in-Ordering
operators::binary-returns-in_ok-right_operand-in-Ordering t c = ordering_arm _ _ _ _ _ _ _ _ _ _ _ _ _ _ _ c.in-Binary.is c.in_ok-right_operand-in-Ordering.ensures c.in-Ordering.is c.operator_family.ensures c.in_ok-x-in-Ordering.ensures c.deref-in-Ordering-3.ensures c.deref-in-Ordering.ensures c.deref-in-Ordering-2.ensures c.deref.ensures c.deref-in-Binary.ensures

pub operators::binary-returns-in_ok-right_operand-in-Equality : goal.operators::binary-returns-in_ok-right_operand-in-Equality
operators::binary-returns-in_ok-right_operand-in-Equality t c = equality_arm _ _ _ _ _ _ _ _ _ _ _ _ _ _ _ c.in-Binary.is c.in_ok-right_operand-in-Equality.ensures c.in-Equality.is c.operator_family.ensures c.in_ok-x-in-Equality.ensures c.deref-in-Equality-3.ensures c.deref-in-Equality.ensures c.deref-in-Equality-2.ensures c.deref.ensures c.deref-in-Binary.ensures

pub operators::binary-returns-in_ok-right_joined-in-Logical : goal.operators::binary-returns-in_ok-right_joined-in-Logical
operators::binary-returns-in_ok-right_joined-in-Logical t c = logical_arm _ _ _ _ _ _ _ _ _ _ _ _ _ _ _ c.in-Binary.is c.in_ok-right_joined-in-Logical.ensures c.in-Logical.is c.operator_family.ensures c.in_ok-x-in-Logical.ensures c.deref-in-Logical-3.ensures c.deref-in-Logical.ensures c.deref-in-Logical-2.ensures c.deref.ensures c.deref-in-Binary.ensures

pub operators::binary-returns-in_ok-right_coalesced-in-Coalescing : goal.operators::binary-returns-in_ok-right_coalesced-in-Coalescing
operators::binary-returns-in_ok-right_coalesced-in-Coalescing t c = coalescing_arm _ _ _ _ _ _ _ _ _ _ _ _ _ _ _ c.in-Binary.is c.in_ok-right_coalesced-in-Coalescing.ensures c.in-Coalescing.is c.operator_family.ensures c.in_ok-x-in-Coalescing.ensures c.deref-in-Coalescing-3.ensures c.deref-in-Coalescing.ensures c.deref-in-Coalescing-2.ensures c.deref.ensures c.deref-in-Binary.ensures

pub operators::binary-returns-in_ok-nil_then-in-LeftBesideNil : goal.operators::binary-returns-in_ok-nil_then-in-LeftBesideNil
operators::binary-returns-in_ok-nil_then-in-LeftBesideNil t c = left_nil_arm _ _ _ _ _ _ _ _ _ _ _ _ _ c.in-Binary.is c.in_ok-nil_then-in-LeftBesideNil.ensures c.in-LeftBesideNil.is c.operator_family.ensures c.in_ok-base-in-LeftBesideNil.ensures c.deref-in-LeftBesideNil.ensures c.deref.ensures c.deref-in-Binary.ensures

pub operators::binary-returns-in_ok-nil_then-in-RightBesideNil : goal.operators::binary-returns-in_ok-nil_then-in-RightBesideNil
operators::binary-returns-in_ok-nil_then-in-RightBesideNil t c = right_nil_arm _ _ _ _ _ _ _ _ _ _ _ _ _ c.in-Binary.is c.in_ok-nil_then-in-RightBesideNil.ensures c.in-RightBesideNil.is c.operator_family.ensures c.in_ok-base-in-RightBesideNil.ensures c.deref-in-RightBesideNil.ensures c.deref.ensures c.deref-in-Binary.ensures

pub places::place_form-returns-in_ok-member_place_then-in-Member : goal.places::place_form-returns-in_ok-member_place_then-in-Member
places::place_form-returns-in_ok-member_place_then-in-Member t c = member_place_arm _ _ _ _ _ _ _ c.in-Member.is c.in_ok-member_place_then-in-Member.ensures c.in_ok-base-in-Member.ensures c.deref.ensures

pub places::place_form-returns-in_ok-chain_place_then-in-OptionalMember : goal.places::place_form-returns-in_ok-chain_place_then-in-OptionalMember
places::place_form-returns-in_ok-chain_place_then-in-OptionalMember t c = chain_place_arm _ _ _ _ _ _ _ c.in-OptionalMember.is c.in_ok-chain_place_then-in-OptionalMember.ensures c.in_ok-base-in-OptionalMember.ensures c.deref-in-OptionalMember.ensures

pub places::place_form-returns-in_ok-index_place-in-Index : goal.places::place_form-returns-in_ok-index_place-in-Index
places::place_form-returns-in_ok-index_place-in-Index t c = index_place_arm _ _ _ _ _ _ _ _ _ _ c.in-Index.is c.in_ok-index_place-in-Index.ensures c.in_ok-r-in-Index.ensures c.in_ok-based-in-Index.ensures c.deref-in-Index-3.ensures c.deref-in-Index.ensures c.deref-in-Index-2.ensures

pub operators::conditional-returns-in_ok-otherwise-in-Ok : goal.operators::conditional-returns-in_ok-otherwise-in-Ok
operators::conditional-returns-in_ok-otherwise-in-Ok t c =
    tested_arm _ _ _ _ _ _ _ _ _ _ _ _ (typing_of c.in-Some.test) _ _ c.in-Conditional.is c.in_ok-otherwise-in-Ok.ensures c.in-Ok.ensures (ap (option_map typing_of) (sym c.in-Some.is) ∙ c.in_ok-test-in-Conditional.ensures)
    c.deref-in-Ok-2.ensures c.deref-in-Conditional-2.ensures c.deref.ensures c.deref-in-Ok-3.ensures c.deref-in-Conditional.ensures c.deref-in-Ok.ensures

pub expression::create-returns : goal.expression::create-returns
expression::create-returns t c = create_made _ _ _ (call_view c.in-Some.made) _ c.in_ok-create_with.ensures (ap (option_map call_view) (sym c.in-Some.is) ∙ c.in_ok-made.ensures)

pub places::place_form-returns-in_ok-self_base-in-Self_ : goal.places::place_form-returns-in_ok-self_base-in-Self_
places::place_form-returns-in_ok-self_base-in-Self_ t c = self_place_arm _ _ _ c.in-Self_.is c.in_ok-self_base-in-Self_.ensures
