-- Calls: labels, arguments, type arguments, and what is called.
use Rattle.std.specs.Prelude.{ℕ, Bool, true, false, Option, Some, None, List, [], ◌∷◌, codes}
use Rattle.std.specs.Prelude.{◌≡◌, refl}
use Rattle.cad_syntax.specs.Types.{PureType, basic, optional, array, dictionary, intersection, declared, reference, capability, capability_of}
use Rattle.cad_syntax.specs.declared.kind.Kind.TheVariants as k
use Rattle.cad_syntax.specs.declared.types.Basic.TheVariants as b
use Rattle.cad_syntax.specs.declared.types.Authorization.TheVariants as a
use Rattle.cad_types.specs.declared.builtin.Builtin.TheVariants as m
use Rattle.cad_grammar.specs.Trees as s
use Rattle.cad_grammar.specs.declared.type_expr.Entitlements.TheVariants as w
use Rattle.cad_grammar.specs.declared.expression.UnaryOperator.TheVariants as un
use Rattle.cad_grammar.specs.declared.expression.BinaryOperator.TheVariants as bi
use Rattle.cad_grammar.specs.declared.expression.CastKind.TheVariants as ca
use Rattle.cad_declarations.specs.Names.{built_in}
use Rattle.cad_declarations.specs.Typed as e
use Rattle.cad_typing.proofs.SampleProgram.{n, v, an, storage_path, public_path, c, script, in_struct, in_resource, in_init, in_contract, in_contract_init, in_interface, in_prepare, in_execute, after_function, after_interface, type_of, type_moved, type_expected, term_of, target_of, event_of, arrays, deep_script}

-- `s.add(1, to: 2, c: 3)`
labels_and_order : type_of script (s.call (s.member (v (codes "s")) (n (codes "add"))) s.no_annotations (s.arguments None (s.whole 1 false) (s.arguments (Some (n (codes "to"))) (s.whole 2 false) (s.arguments (Some (n (codes "c"))) (s.whole 3 false) s.no_arguments)))) ≡ (Some (basic (b.Number k.Int)))
labels_and_order = refl

-- `s.add(1, 2, c: 3)`
a_label_that_is_not_there : type_of script (s.call (s.member (v (codes "s")) (n (codes "add"))) s.no_annotations (s.arguments None (s.whole 1 false) (s.arguments None (s.whole 2 false) (s.arguments (Some (n (codes "c"))) (s.whole 3 false) s.no_arguments)))) ≡ None
a_label_that_is_not_there = refl

-- `s.add(1, c: 3, to: 2)`
labels_in_another_order : type_of script (s.call (s.member (v (codes "s")) (n (codes "add"))) s.no_annotations (s.arguments None (s.whole 1 false) (s.arguments (Some (n (codes "c"))) (s.whole 3 false) (s.arguments (Some (n (codes "to"))) (s.whole 2 false) s.no_arguments)))) ≡ None
labels_in_another_order = refl

-- `s.add(1, to: 2)`
too_few_arguments : type_of script (s.call (s.member (v (codes "s")) (n (codes "add"))) s.no_annotations (s.arguments None (s.whole 1 false) (s.arguments (Some (n (codes "to"))) (s.whole 2 false) s.no_arguments))) ≡ None
too_few_arguments = refl

-- `twice(1)`
a_function_outside_a_contract : type_of script (s.call (v (codes "twice")) s.no_annotations (s.arguments None (s.whole 1 false) s.no_arguments)) ≡ (Some (basic (b.Number k.UInt8)))
a_function_outside_a_contract = refl

-- `twice(x)`
an_argument_that_does_not_fit : type_of script (s.call (v (codes "twice")) s.no_annotations (s.arguments None (v (codes "x")) s.no_arguments)) ≡ None
an_argument_that_does_not_fit = refl

-- `C.S(n: 1)`
a_freshis_made : type_of script (s.call (s.member (v (codes "C")) (n (codes "S"))) s.no_annotations (s.arguments (Some (n (codes "n"))) (s.whole 1 false) s.no_arguments)) ≡ (Some (declared (c (codes "S" ∷ []))))
a_freshis_made = refl

-- `C.S(1)`
a_freshneeds_its_label : type_of script (s.call (s.member (v (codes "C")) (n (codes "S"))) s.no_annotations (s.arguments None (s.whole 1 false) s.no_arguments)) ≡ None
a_freshneeds_its_label = refl

-- `C.R(n: 1)`
a_resource_is_not_called : type_of script (s.call (s.member (v (codes "C")) (n (codes "R"))) s.no_annotations (s.arguments (Some (n (codes "n"))) (s.whole 1 false) s.no_arguments)) ≡ None
a_resource_is_not_called = refl

-- `create R(n: 1)`
a_resource_is_created_in_its_contract : type_of in_contract (s.create ((n (codes "R")) ∷ []) (s.arguments (Some (n (codes "n"))) (s.whole 1 false) s.no_arguments)) ≡ (Some (declared (c (codes "R" ∷ []))))
a_resource_is_created_in_its_contract = refl

-- `create C.R(n: 1)`
a_resource_is_not_created_outside : type_of script (s.create ((n (codes "C")) ∷ (n (codes "R")) ∷ []) (s.arguments (Some (n (codes "n"))) (s.whole 1 false) s.no_arguments)) ≡ None
a_resource_is_not_created_outside = refl

-- `create S(n: 1)`
a_freshis_not_created : type_of in_contract (s.create ((n (codes "S")) ∷ []) (s.arguments (Some (n (codes "n"))) (s.whole 1 false) s.no_arguments)) ≡ None
a_freshis_not_created = refl

-- `Ev(n: 1)`
an_event_is_not_called : type_of in_contract (s.call (v (codes "Ev")) s.no_annotations (s.arguments (Some (n (codes "n"))) (s.whole 1 false) s.no_arguments)) ≡ None
an_event_is_not_called = refl

-- `emit Ev(n: 1)`
an_event_is_emitted : event_of in_contract (s.call (v (codes "Ev")) s.no_annotations (s.arguments (Some (n (codes "n"))) (s.whole 1 false) s.no_arguments)) ≡ (Some (c (codes "Ev" ∷ [])))
an_event_is_emitted = refl

-- `emit C.Ev(n: 1)`
an_event_by_its_contract : event_of in_struct (s.call (s.member (v (codes "C")) (n (codes "Ev"))) s.no_annotations (s.arguments (Some (n (codes "n"))) (s.whole 1 false) s.no_arguments)) ≡ (Some (c (codes "Ev" ∷ [])))
an_event_by_its_contract = refl

-- `emit C.Ev(n: 1)` outside the contract
an_event_of_another_contract : event_of script (s.call (s.member (v (codes "C")) (n (codes "Ev"))) s.no_annotations (s.arguments (Some (n (codes "n"))) (s.whole 1 false) s.no_arguments)) ≡ None
an_event_of_another_contract = refl

-- `emit S(n: 1)`
only_events_are_emitted : event_of in_contract (s.call (v (codes "S")) s.no_annotations (s.arguments (Some (n (codes "n"))) (s.whole 1 false) s.no_arguments)) ≡ None
only_events_are_emitted = refl

-- `C.Color(rawValue: 1)`
a_case_by_its_number : type_of script (s.call (s.member (v (codes "C")) (n (codes "Color"))) s.no_annotations (s.arguments (Some (n (codes "rawValue"))) (s.whole 1 false) s.no_arguments)) ≡ (Some (optional (declared (c (codes "Color" ∷ [])))))
a_case_by_its_number = refl

-- `UInt8(1.5)`
a_conversion : type_of script (s.call (v (codes "UInt8")) s.no_annotations (s.arguments None (s.fixed 150000000) s.no_arguments)) ≡ (Some (basic (b.Number k.UInt8)))
a_conversion = refl

-- `UInt64(at)`
an_address_is_not_converted : type_of script (s.call (v (codes "UInt64")) s.no_annotations (s.arguments None (v (codes "at")) s.no_arguments)) ≡ None
an_address_is_not_converted = refl

-- `Address(1)`
no_conversion_to_an_address : type_of script (s.call (v (codes "Address")) s.no_annotations (s.arguments None (s.whole 1 false) s.no_arguments)) ≡ None
no_conversion_to_an_address = refl

-- `Int8.fromString("1")`
a_number_from_a_text : type_of script (s.call (s.member (v (codes "Int8")) (n (codes "fromString"))) s.no_annotations (s.arguments None (s.text (49 ∷ [])) s.no_arguments)) ≡ (Some (optional (basic (b.Number k.Int8))))
a_number_from_a_text = refl

-- `Type<@C.R>()`
a_type : type_of script (s.call (v (codes "Type")) (s.annotations true (s.named ((n (codes "C")) ∷ (n (codes "R")) ∷ []) s.no_annotations) s.no_annotations) s.no_arguments) ≡ (Some (basic b.Meta))
a_type = refl

-- `Type<C.R>()`
a_type_with_a_wrong_mark : type_of script (s.call (v (codes "Type")) (s.annotations false (s.named ((n (codes "C")) ∷ (n (codes "R")) ∷ []) s.no_annotations) s.no_annotations) s.no_arguments) ≡ None
a_type_with_a_wrong_mark = refl

-- `Type()`
a_type_needs_an_argument : type_of script (s.call (v (codes "Type")) s.no_annotations s.no_arguments) ≡ None
a_type_needs_an_argument = refl

-- `C.make<Int>()`
no_type_arguments : type_of script (s.call (s.member (v (codes "C")) (n (codes "make"))) (s.annotations false (s.named ((n (codes "Int")) ∷ []) s.no_annotations) s.no_annotations) s.no_arguments) ≡ None
no_type_arguments = refl

-- `C.make()()`
nothing_else_is_called : type_of script (s.call (s.call (s.member (v (codes "C")) (n (codes "make"))) s.no_annotations s.no_arguments) s.no_annotations s.no_arguments) ≡ None
nothing_else_is_called = refl

-- `panic("")`
never : type_of script (s.call (v (codes "panic")) s.no_annotations (s.arguments None (s.text []) s.no_arguments)) ≡ (Some (basic b.Never))
never = refl

-- `assert(b)`
an_assertion : type_of script (s.call (v (codes "assert")) s.no_annotations (s.arguments None (v (codes "b")) s.no_arguments)) ≡ (Some (basic b.Void))
an_assertion = refl

-- `assert(b, message: "a")`
an_assertion_with_a_message : type_of script (s.call (v (codes "assert")) s.no_annotations (s.arguments None (v (codes "b")) (s.arguments (Some (n (codes "message"))) (s.text (97 ∷ [])) s.no_arguments))) ≡ (Some (basic b.Void))
an_assertion_with_a_message = refl

-- `assert(b, "a")`
a_message_needs_its_label : type_of script (s.call (v (codes "assert")) s.no_annotations (s.arguments None (v (codes "b")) (s.arguments None (s.text (97 ∷ [])) s.no_arguments))) ≡ None
a_message_needs_its_label = refl

-- `a.append(1)`
an_element_is_appended : type_of script (s.call (s.member (v (codes "a")) (n (codes "append"))) s.no_annotations (s.arguments None (s.whole 1 false) s.no_arguments)) ≡ (Some (basic b.Void))
an_element_is_appended = refl

-- `fa.append(1)`
a_reference_may_not_append : type_of script (s.call (s.member (v (codes "fa")) (n (codes "append"))) s.no_annotations (s.arguments None (s.whole 1 false) s.no_arguments)) ≡ None
a_reference_may_not_append = refl

-- `fm.append(1)`
a_reference_that_may_append : type_of script (s.call (s.member (v (codes "fm")) (n (codes "append"))) s.no_annotations (s.arguments None (s.whole 1 false) s.no_arguments)) ≡ (Some (basic b.Void))
a_reference_that_may_append = refl

-- `a.contains(1)`
elements_with_equality_are_looked_for : type_of script (s.call (s.member (v (codes "a")) (n (codes "contains"))) s.no_annotations (s.arguments None (s.whole 1 false) s.no_arguments)) ≡ (Some (basic b.Bool))
elements_with_equality_are_looked_for = refl

-- `[s].contains(s)`
elements_without_equality_are_not : type_of script (s.call (s.member (s.list (s.exprs (v (codes "s")) s.no_exprs)) (n (codes "contains"))) s.no_annotations (s.arguments None (v (codes "s")) s.no_arguments)) ≡ None
elements_without_equality_are_not = refl

-- `l.reverse()`
resources_are_not_reversed : type_of script (s.call (s.member (v (codes "l")) (n (codes "reverse"))) s.no_annotations s.no_arguments) ≡ None
resources_are_not_reversed = refl

-- `a.insert(at: u, 1)`
an_index_that_is_no_Int : type_of script (s.call (s.member (v (codes "a")) (n (codes "insert"))) s.no_annotations (s.arguments (Some (n (codes "at"))) (v (codes "u")) (s.arguments None (s.whole 1 false) s.no_arguments))) ≡ None
an_index_that_is_no_Int = refl

-- `acc.storage.save(1, to: /storage/a)`
what_is_saved_has_its_own_type : type_of script (s.call (s.member (s.member (v (codes "acc")) (n (codes "storage"))) (n (codes "save"))) s.no_annotations (s.arguments None (s.whole 1 false) (s.arguments (Some (n (codes "to"))) (storage_path (codes "a")) s.no_arguments))) ≡ (Some (basic b.Void))
what_is_saved_has_its_own_type = refl

-- `acc.storage.save<UInt8>(1, to: /storage/a)`
what_is_saved_as_another_type : type_of script (s.call (s.member (s.member (v (codes "acc")) (n (codes "storage"))) (n (codes "save"))) (s.annotations false (s.named ((n (codes "UInt8")) ∷ []) s.no_annotations) s.no_annotations) (s.arguments None (s.whole 1 false) (s.arguments (Some (n (codes "to"))) (storage_path (codes "a")) s.no_arguments))) ≡ (Some (basic b.Void))
what_is_saved_as_another_type = refl

-- `acc.storage.save(h, to: /storage/a)`
a_reference_is_not_saved : type_of script (s.call (s.member (s.member (v (codes "acc")) (n (codes "storage"))) (n (codes "save"))) s.no_annotations (s.arguments None (v (codes "h")) (s.arguments (Some (n (codes "to"))) (storage_path (codes "a")) s.no_arguments))) ≡ None
a_reference_is_not_saved = refl

-- `acc.storage.load<&Int>(from: /storage/a)`
a_reference_is_not_loaded : type_of script (s.call (s.member (s.member (v (codes "acc")) (n (codes "storage"))) (n (codes "load"))) (s.annotations false (s.reference None (s.named ((n (codes "Int")) ∷ []) s.no_annotations)) s.no_annotations) (s.arguments (Some (n (codes "from"))) (storage_path (codes "a")) s.no_arguments)) ≡ None
a_reference_is_not_loaded = refl

-- `acc.storage.load<@C.R>(from: /storage/a)`
a_resource_is_loaded : type_of script (s.call (s.member (s.member (v (codes "acc")) (n (codes "storage"))) (n (codes "load"))) (s.annotations true (s.named ((n (codes "C")) ∷ (n (codes "R")) ∷ []) s.no_annotations) s.no_annotations) (s.arguments (Some (n (codes "from"))) (storage_path (codes "a")) s.no_arguments)) ≡ (Some (optional (declared (c (codes "R" ∷ [])))))
a_resource_is_loaded = refl

-- `acc.storage.copy<@C.R>(from: /storage/a)`
a_resource_is_not_copied : type_of script (s.call (s.member (s.member (v (codes "acc")) (n (codes "storage"))) (n (codes "copy"))) (s.annotations true (s.named ((n (codes "C")) ∷ (n (codes "R")) ∷ []) s.no_annotations) s.no_annotations) (s.arguments (Some (n (codes "from"))) (storage_path (codes "a")) s.no_arguments)) ≡ None
a_resource_is_not_copied = refl

-- `acc.storage.borrow<Int>(from: /storage/a)`
only_references_are_borrowed : type_of script (s.call (s.member (s.member (v (codes "acc")) (n (codes "storage"))) (n (codes "borrow"))) (s.annotations false (s.named ((n (codes "Int")) ∷ []) s.no_annotations) s.no_annotations) (s.arguments (Some (n (codes "from"))) (storage_path (codes "a")) s.no_arguments)) ≡ None
only_references_are_borrowed = refl

-- `acc.storage.load(from: /storage/a)`
a_type_argument_is_written : type_of script (s.call (s.member (s.member (v (codes "acc")) (n (codes "storage"))) (n (codes "load"))) s.no_annotations (s.arguments (Some (n (codes "from"))) (storage_path (codes "a")) s.no_arguments)) ≡ None
a_type_argument_is_written = refl

-- `cap.borrow()`
a_capability_lends : type_of script (s.call (s.member (v (codes "cap")) (n (codes "borrow"))) s.no_annotations s.no_arguments) ≡ (Some (optional (reference a.Unauthorized (declared (c (codes "S" ∷ []))))))
a_capability_lends = refl

-- `getAccount(at).contracts.add(name: "A", code: [], a: 1)`
further_arguments_with_any_labels : type_of script (s.call (s.member (s.member (s.call (v (codes "getAccount")) s.no_annotations (s.arguments None (v (codes "at")) s.no_arguments)) (n (codes "contracts"))) (n (codes "add"))) s.no_annotations (s.arguments (Some (n (codes "name"))) (s.text (65 ∷ [])) (s.arguments (Some (n (codes "code"))) (s.list s.no_exprs) (s.arguments (Some (n (codes "a"))) (s.whole 1 false) s.no_arguments)))) ≡ None
further_arguments_with_any_labels = refl

-- `C.table.insert(key: "a", 1)`
a_container_of_a_contract_is_owned : type_of script (s.call (s.member (s.member (v (codes "C")) (n (codes "table"))) (n (codes "insert"))) s.no_annotations (s.arguments (Some (n (codes "key"))) (s.text (97 ∷ [])) (s.arguments None (s.whole 1 false) s.no_arguments))) ≡ (Some (optional (basic (b.Number k.Int))))
a_container_of_a_contract_is_owned = refl

-- `self.S(n: 1)`
a_type_is_no_member_of_self : type_of in_contract (s.call (s.member s.self (n (codes "S"))) s.no_annotations (s.arguments (Some (n (codes "n"))) (s.whole 1 false) s.no_arguments)) ≡ None
a_type_is_no_member_of_self = refl

-- `C.S(n: 1)`
a_type_of_the_contract_by_its_name : type_of in_contract (s.call (s.member (v (codes "C")) (n (codes "S"))) s.no_annotations (s.arguments (Some (n (codes "n"))) (s.whole 1 false) s.no_arguments)) ≡ (Some (declared (c (codes "S" ∷ []))))
a_type_of_the_contract_by_its_name = refl
