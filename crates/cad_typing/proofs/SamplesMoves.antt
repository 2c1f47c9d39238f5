-- Where resources stand.
use Rattle.std.specs.Prelude.{ℕ, Bool, true, false, Option, Some, None, List, [], ◌∷◌, codes}
use Rattle.std.specs.Prelude.{◌≡◌, refl}
use Rattle.cad_syntax.specs.Types.{PureType, basic, optional, array, dictionary, intersection, declared, reference, capability, capability_of}
use Rattle.cad_syntax.specs.declared.kind.Kind.TheVariants as k
use Rattle.cad_syntax.specs.declared.types.Basic.TheVariants as b
use Rattle.cad_syntax.specs.declared.types.Authorization.TheVariants as a
use Rattle.cad_types.specs.declared.builtin.Builtin.TheVariants as m
use Rattle.cad_grammar.specs.Trees as s
use Rattle.cad_grammar.specs.declared.type_expr.Entitlements.TheVariants as w
use Rattle.cad_grammar.specs.declared.expression.UnaryOperator.TheVariants as un
use Rattle.cad_grammar.specs.declared.expression.BinaryOperator.TheVariants as bi
use Rattle.cad_grammar.specs.declared.expression.CastKind.TheVariants as ca
use Rattle.cad_declarations.specs.Names.{built_in}
use Rattle.cad_declarations.specs.Typed as e
use Rattle.cad_typing.proofs.SampleProgram.{n, v, an, storage_path, public_path, c, script, in_struct, in_resource, in_init, in_contract, in_contract_init, in_interface, in_prepare, in_execute, after_function, after_interface, type_of, type_moved, type_expected, term_of, target_of, event_of, arrays, deep_script}

-- `let y <- r`
a_variable_is_moved : type_moved script (v (codes "r")) ≡ (Some (declared (c (codes "R" ∷ []))))
a_variable_is_moved = refl

-- `let y <- C.make()`
a_call_is_moved : type_moved script (s.call (s.member (v (codes "C")) (n (codes "make"))) s.no_annotations s.no_arguments) ≡ (Some (declared (c (codes "R" ∷ []))))
a_call_is_moved = refl

-- `let y <- <-r`
no_sign_twice : type_moved script (s.unary un.Move (v (codes "r"))) ≡ None
no_sign_twice = refl

-- `let y <- x`
a_number_is_not_moved : type_moved script (v (codes "x")) ≡ None
a_number_is_not_moved = refl

-- `let y <- r.child`
a_nested_resource_is_not_moved : type_moved script (s.member (v (codes "r")) (n (codes "child"))) ≡ None
a_nested_resource_is_not_moved = refl

-- `let y <- l[0]`
an_element_is_not_moved : type_moved script (s.index (v (codes "l")) (s.whole 0 false)) ≡ None
an_element_is_not_moved = refl

-- `let y <- self.vault`
a_field_of_a_transaction_is_moved : type_moved in_execute (s.member s.self (n (codes "vault"))) ≡ (Some (declared (c (codes "R" ∷ []))))
a_field_of_a_transaction_is_moved = refl

-- `let y <- self`
self_is_not_moved : type_moved in_resource s.self ≡ None
self_is_not_moved = refl

-- `let y <- or ?? panic("")`
a_default_of_a_variable : type_moved script (s.binary bi.Coalesce (v (codes "or")) (s.call (v (codes "panic")) s.no_annotations (s.arguments None (s.text []) s.no_arguments))) ≡ (Some (declared (c (codes "R" ∷ []))))
a_default_of_a_variable = refl

-- `let y <- (<-or) ?? panic("")`
a_default_of_a_moved_variable : type_moved script (s.binary bi.Coalesce (s.unary un.Move (v (codes "or"))) (s.call (v (codes "panic")) s.no_annotations (s.arguments None (s.text []) s.no_arguments))) ≡ (Some (declared (c (codes "R" ∷ []))))
a_default_of_a_moved_variable = refl

-- `let y <- or ?? C.make()`
a_default_that_ends : type_moved script (s.binary bi.Coalesce (v (codes "or")) (s.call (s.member (v (codes "C")) (n (codes "make"))) s.no_annotations s.no_arguments)) ≡ None
a_default_that_ends = refl

-- `let y <- r as @AnyResource`
a_cast_of_a_variable : type_moved script (s.cast ca.Static (v (codes "r")) (an true (s.named ((n (codes "AnyResource")) ∷ []) s.no_annotations))) ≡ (Some (basic b.AnyResource))
a_cast_of_a_variable = refl

-- `let y <- r as! @{C.RI}`
a_forced_cast_of_a_variable : type_moved script (s.cast ca.Forced (v (codes "r")) (an true (s.intersection (((n (codes "C")) ∷ (n (codes "RI")) ∷ []) ∷ [])))) ≡ (Some (intersection ((c (codes "RI" ∷ [])) ∷ [])))
a_forced_cast_of_a_variable = refl

-- `let y <- C.maybe()!`
a_content_of_a_call : type_moved script (s.force (s.call (s.member (v (codes "C")) (n (codes "maybe"))) s.no_annotations s.no_arguments)) ≡ (Some (declared (c (codes "R" ∷ []))))
a_content_of_a_call = refl

-- `let y <- (<-or)!`
a_content_of_a_moved_variable : type_moved script (s.force (s.unary un.Move (v (codes "or")))) ≡ (Some (declared (c (codes "R" ∷ []))))
a_content_of_a_moved_variable = refl

-- `let y <- or!`
a_content_of_a_variable : type_moved script (s.force (v (codes "or"))) ≡ None
a_content_of_a_variable = refl

-- `let y <- r.child!`
a_content_of_a_field : type_moved script (s.force (s.member (v (codes "r")) (n (codes "child")))) ≡ None
a_content_of_a_field = refl

-- `let y <- b ? r : r`
no_choice_of_variables : type_moved script (s.conditional (v (codes "b")) (v (codes "r")) (v (codes "r"))) ≡ None
no_choice_of_variables = refl

-- `r.eat(<-C.make())`
an_argument_under_a_move : type_of script (s.call (s.member (v (codes "r")) (n (codes "eat"))) s.no_annotations (s.arguments None (s.unary un.Move (s.call (s.member (v (codes "C")) (n (codes "make"))) s.no_annotations s.no_arguments)) s.no_arguments)) ≡ (Some (basic (b.Number k.Int)))
an_argument_under_a_move = refl

-- `rr.eat(<-r)`
a_variable_as_an_argument : type_of script (s.call (s.member (v (codes "rr")) (n (codes "eat"))) s.no_annotations (s.arguments None (s.unary un.Move (v (codes "r"))) s.no_arguments)) ≡ (Some (basic (b.Number k.Int)))
a_variable_as_an_argument = refl

-- `rr.eat(r)`
an_argument_without_a_move : type_of script (s.call (s.member (v (codes "rr")) (n (codes "eat"))) s.no_annotations (s.arguments None (v (codes "r")) s.no_arguments)) ≡ None
an_argument_without_a_move = refl

-- `rr.eat(C.make())`
a_call_without_a_move : type_of script (s.call (s.member (v (codes "rr")) (n (codes "eat"))) s.no_annotations (s.arguments None (s.call (s.member (v (codes "C")) (n (codes "make"))) s.no_annotations s.no_arguments) s.no_arguments)) ≡ None
a_call_without_a_move = refl

-- `rr.eat(<-C.maybe()!)`
only_variables_calls_and_fields_of_transactions_are_moved : type_of script (s.call (s.member (v (codes "rr")) (n (codes "eat"))) s.no_annotations (s.arguments None (s.unary un.Move (s.force (s.call (s.member (v (codes "C")) (n (codes "maybe"))) s.no_annotations s.no_arguments))) s.no_arguments)) ≡ None
only_variables_calls_and_fields_of_transactions_are_moved = refl

-- `rr.eat(<-(or ?? panic("")))`
a_default_is_not_moved : type_of script (s.call (s.member (v (codes "rr")) (n (codes "eat"))) s.no_annotations (s.arguments None (s.unary un.Move (s.binary bi.Coalesce (v (codes "or")) (s.call (v (codes "panic")) s.no_annotations (s.arguments None (s.text []) s.no_arguments)))) s.no_arguments)) ≡ None
a_default_is_not_moved = refl

-- `twice(<-u)`
a_number_under_a_move : type_of script (s.call (v (codes "twice")) s.no_annotations (s.arguments None (s.unary un.Move (v (codes "u"))) s.no_arguments)) ≡ None
a_number_under_a_move = refl

-- `destroy r`
a_resource_is_destroyed : type_of script (s.unary un.Destroy (v (codes "r"))) ≡ (Some (basic b.Void))
a_resource_is_destroyed = refl

-- `destroy or`
an_optional_resource_is_destroyed : type_of script (s.unary un.Destroy (v (codes "or"))) ≡ (Some (basic b.Void))
an_optional_resource_is_destroyed = refl

-- `destroy l`
resources_are_destroyed : type_of script (s.unary un.Destroy (v (codes "l"))) ≡ (Some (basic b.Void))
resources_are_destroyed = refl

-- `destroy C.make()`
a_call_is_destroyed : type_of script (s.unary un.Destroy (s.call (s.member (v (codes "C")) (n (codes "make"))) s.no_annotations s.no_arguments)) ≡ (Some (basic b.Void))
a_call_is_destroyed = refl

-- `destroy r.child`
a_nested_resource_is_not_destroyed : type_of script (s.unary un.Destroy (s.member (v (codes "r")) (n (codes "child")))) ≡ None
a_nested_resource_is_not_destroyed = refl

-- `destroy x`
a_number_is_not_destroyed : type_of script (s.unary un.Destroy (v (codes "x"))) ≡ None
a_number_is_not_destroyed = refl
