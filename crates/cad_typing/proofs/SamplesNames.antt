-- Names and places: what may be named where, and what is written.
use Rattle.std.specs.Prelude.{ℕ, Bool, true, false, Option, Some, None, List, [], ◌∷◌, codes}
use Rattle.std.specs.Prelude.{◌≡◌, refl}
use Rattle.cad_syntax.specs.Types.{PureType, basic, optional, array, dictionary, intersection, declared, reference, capability, capability_of}
use Rattle.cad_syntax.specs.declared.kind.Kind.TheVariants as k
use Rattle.cad_syntax.specs.declared.types.Basic.TheVariants as b
use Rattle.cad_syntax.specs.declared.types.Authorization.TheVariants as a
use Rattle.cad_types.specs.declared.builtin.Builtin.TheVariants as m
use Rattle.cad_grammar.specs.Trees as s
use Rattle.cad_grammar.specs.declared.type_expr.Entitlements.TheVariants as w
use Rattle.cad_grammar.specs.declared.expression.UnaryOperator.TheVariants as un
use Rattle.cad_grammar.specs.declared.expression.BinaryOperator.TheVariants as bi
use Rattle.cad_grammar.specs.declared.expression.CastKind.TheVariants as ca
use Rattle.cad_declarations.specs.Names.{built_in}
use Rattle.cad_declarations.specs.Typed as e
use Rattle.cad_typing.proofs.SampleProgram.{n, v, an, storage_path, public_path, c, script, in_struct, in_resource, in_init, in_contract, in_contract_init, in_interface, in_prepare, in_execute, after_function, after_interface, type_of, type_moved, type_expected, term_of, target_of, event_of, arrays, deep_script}

-- `x`
a_variable : type_of script (v (codes "x")) ≡ (Some (basic (b.Number k.Int)))
a_variable = refl

-- `nope`
an_unknown_name : type_of script (v (codes "nope")) ≡ None
an_unknown_name = refl

-- `C`
a_contract_is_no_value : type_of script (v (codes "C")) ≡ None
a_contract_is_no_value = refl

-- `Int`
a_type_is_no_value : type_of script (v (codes "Int")) ≡ None
a_type_is_no_value = refl

-- `twice`
a_function_is_no_value : type_of script (v (codes "twice")) ≡ None
a_function_is_no_value = refl

-- `r`
a_resource_is_no_value : type_of script (v (codes "r")) ≡ None
a_resource_is_no_value = refl

-- `self`
self_of_a_struct : type_of in_struct s.self ≡ (Some (declared (c (codes "S" ∷ []))))
self_of_a_struct = refl

-- `self`
self_of_a_resource_is_no_value : type_of in_resource s.self ≡ None
self_of_a_resource_is_no_value = refl

-- `self`
self_of_a_contract_is_no_value : type_of in_contract s.self ≡ None
self_of_a_contract_is_no_value = refl

-- `self`
self_of_a_transaction_is_no_value : type_of in_execute s.self ≡ None
self_of_a_transaction_is_no_value = refl

-- `self`
no_self : type_of script s.self ≡ None
no_self = refl

-- `self.count`
self_of_a_contract_is_a_receiver : type_of in_contract (s.member s.self (n (codes "count"))) ≡ (Some (basic (b.Number k.Int)))
self_of_a_contract_is_a_receiver = refl

-- `self.sum`
self_of_a_transaction_has_its_fields : type_of in_execute (s.member s.self (n (codes "sum"))) ≡ (Some (basic (b.Number k.Int)))
self_of_a_transaction_has_its_fields = refl

-- `self.getType()`
self_of_a_transaction_has_nothing_else : type_of in_execute (s.call (s.member s.self (n (codes "getType"))) s.no_annotations s.no_arguments) ≡ None
self_of_a_transaction_has_nothing_else = refl

-- `C.Color.red`
a_case : type_of script (s.member (s.member (v (codes "C")) (n (codes "Color"))) (n (codes "red"))) ≡ (Some (declared (c (codes "Color" ∷ []))))
a_case = refl

-- `Color.red`
a_case_in_the_contract : type_of in_contract (s.member (v (codes "Color")) (n (codes "red"))) ≡ (Some (declared (c (codes "Color" ∷ []))))
a_case_in_the_contract = refl

-- `C.Color.green`
no_such_case : type_of script (s.member (s.member (v (codes "C")) (n (codes "Color"))) (n (codes "green"))) ≡ None
no_such_case = refl

-- `x = ..`
a_var_is_assigned : target_of script (v (codes "x")) ≡ (Some (basic (b.Number k.Int)))
a_var_is_assigned = refl

-- `o = ..`
a_let_is_not_assigned : target_of script (v (codes "o")) ≡ None
a_let_is_not_assigned = refl

-- `a[0] = ..`
an_element_is_assigned : target_of script (s.index (v (codes "a")) (s.whole 0 false)) ≡ (Some (basic (b.Number k.Int)))
an_element_is_assigned = refl

-- `d["k"] = ..`
what_stands_under_a_key_is_assigned : target_of script (s.index (v (codes "d")) (s.text (107 ∷ []))) ≡ (Some (optional (basic (b.Number k.Int))))
what_stands_under_a_key_is_assigned = refl

-- `fa[0] = ..`
an_element_through_a_reference : target_of script (s.index (v (codes "fa")) (s.whole 0 false)) ≡ None
an_element_through_a_reference = refl

-- `fm[0] = ..`
an_element_through_a_reference_that_may : target_of script (s.index (v (codes "fm")) (s.whole 0 false)) ≡ (Some (basic (b.Number k.Int)))
an_element_through_a_reference_that_may = refl

-- `s.n = ..`
a_var_field_outside_its_type : target_of script (s.member (v (codes "s")) (n (codes "n"))) ≡ None
a_var_field_outside_its_type = refl

-- `s.n = ..`
a_var_field_inside_its_type : target_of in_struct (s.member (v (codes "s")) (n (codes "n"))) ≡ (Some (basic (b.Number k.Int)))
a_var_field_inside_its_type = refl

-- `s.list[0] = ..`
an_element_of_a_field : target_of script (s.index (s.member (v (codes "s")) (n (codes "list"))) (s.whole 0 false)) ≡ (Some (basic (b.Number k.Int)))
an_element_of_a_field = refl

-- `self.list = ..`
a_let_field_outside_the_initializer : target_of in_struct (s.member s.self (n (codes "list"))) ≡ None
a_let_field_outside_the_initializer = refl

-- `self.list = ..`
a_let_field_in_the_initializer : target_of in_init (s.member s.self (n (codes "list"))) ≡ (Some (array (basic (b.Number k.Int))))
a_let_field_in_the_initializer = refl

-- `s.list = ..`
a_let_field_of_another_value_in_the_initializer : target_of in_init (s.member (v (codes "s")) (n (codes "list"))) ≡ None
a_let_field_of_another_value_in_the_initializer = refl

-- `f.n = ..`
a_field_through_a_reference : target_of script (s.member (v (codes "f")) (n (codes "n"))) ≡ None
a_field_through_a_reference = refl

-- `f.n = ..`
a_field_through_a_reference_inside_its_type : target_of in_struct (s.member (v (codes "f")) (n (codes "n"))) ≡ (Some (basic (b.Number k.Int)))
a_field_through_a_reference_inside_its_type = refl

-- `C.fresh().list[0] = ..`
a_field_of_a_call : target_of script (s.index (s.member (s.call (s.member (v (codes "C")) (n (codes "fresh"))) s.no_annotations s.no_arguments) (n (codes "list"))) (s.whole 0 false)) ≡ None
a_field_of_a_call = refl

-- `os!.n = ..`
a_field_under_an_exclamation_mark : target_of in_struct (s.member (s.force (v (codes "os"))) (n (codes "n"))) ≡ None
a_field_under_an_exclamation_mark = refl

-- `C.count = ..`
a_field_of_the_contract_in_its_types : target_of in_struct (s.member (v (codes "C")) (n (codes "count"))) ≡ (Some (basic (b.Number k.Int)))
a_field_of_the_contract_in_its_types = refl

-- `self.vault = ..`
a_let_field_of_a_transaction_in_prepare : target_of in_prepare (s.member s.self (n (codes "vault"))) ≡ (Some (declared (c (codes "R" ∷ []))))
a_let_field_of_a_transaction_in_prepare = refl

-- `self.vault = ..`
a_let_field_of_a_transaction_in_execute : target_of in_execute (s.member s.self (n (codes "vault"))) ≡ None
a_let_field_of_a_transaction_in_execute = refl

-- `os?.n = ..`
a_chain_is_not_assigned : target_of script (s.optional_member (v (codes "os")) (n (codes "n"))) ≡ None
a_chain_is_not_assigned = refl
