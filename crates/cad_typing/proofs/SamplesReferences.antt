-- References and casts.
use Rattle.std.specs.Prelude.{ℕ, Bool, true, false, Option, Some, None, List, [], ◌∷◌, codes}
use Rattle.std.specs.Prelude.{◌≡◌, refl}
use Rattle.cad_syntax.specs.Types.{PureType, basic, optional, array, dictionary, intersection, declared, reference, capability, capability_of}
use Rattle.cad_syntax.specs.declared.kind.Kind.TheVariants as k
use Rattle.cad_syntax.specs.declared.types.Basic.TheVariants as b
use Rattle.cad_syntax.specs.declared.types.Authorization.TheVariants as a
use Rattle.cad_types.specs.declared.builtin.Builtin.TheVariants as m
use Rattle.cad_grammar.specs.Trees as s
use Rattle.cad_grammar.specs.declared.type_expr.Entitlements.TheVariants as w
use Rattle.cad_grammar.specs.declared.expression.UnaryOperator.TheVariants as un
use Rattle.cad_grammar.specs.declared.expression.BinaryOperator.TheVariants as bi
use Rattle.cad_grammar.specs.declared.expression.CastKind.TheVariants as ca
use Rattle.cad_declarations.specs.Names.{built_in}
use Rattle.cad_declarations.specs.Typed as e
use Rattle.cad_typing.proofs.SampleProgram.{n, v, an, storage_path, public_path, c, script, in_struct, in_resource, in_init, in_contract, in_contract_init, in_interface, in_prepare, in_execute, after_function, after_interface, type_of, type_moved, type_expected, term_of, target_of, event_of, arrays, deep_script}

-- `&x as &Int`
a_reference : type_of script (s.borrow (v (codes "x")) (s.reference None (s.named ((n (codes "Int")) ∷ []) s.no_annotations))) ≡ (Some (reference a.Unauthorized (basic (b.Number k.Int))))
a_reference = refl

-- `&a as auth(Mutate) &[Int]`
a_reference_with_rights : type_of script (s.borrow (v (codes "a")) (s.reference (Some (w.All (((n (codes "Mutate")) ∷ []) ∷ []))) (s.array (s.named ((n (codes "Int")) ∷ []) s.no_annotations)))) ≡ (Some (reference (a.All ((built_in (codes "Mutate")) ∷ [])) (array (basic (b.Number k.Int)))))
a_reference_with_rights = refl

-- `&s as &AnyStruct`
a_reference_above_the_place : type_of script (s.borrow (v (codes "s")) (s.reference None (s.named ((n (codes "AnyStruct")) ∷ []) s.no_annotations))) ≡ (Some (reference a.Unauthorized (basic b.AnyStruct)))
a_reference_above_the_place = refl

-- `&x as &String`
a_reference_of_another_type : type_of script (s.borrow (v (codes "x")) (s.reference None (s.named ((n (codes "String")) ∷ []) s.no_annotations))) ≡ None
a_reference_of_another_type = refl

-- `&r as &{C.RI}`
a_reference_to_a_resource : type_of script (s.borrow (v (codes "r")) (s.reference None (s.intersection (((n (codes "C")) ∷ (n (codes "RI")) ∷ []) ∷ [])))) ≡ (Some (reference a.Unauthorized (intersection ((c (codes "RI" ∷ [])) ∷ []))))
a_reference_to_a_resource = refl

-- `&r.list[0] as &C.R`
a_reference_to_a_nested_resource : type_of script (s.borrow (s.index (s.member (v (codes "r")) (n (codes "list"))) (s.whole 0 false)) (s.reference None (s.named ((n (codes "C")) ∷ (n (codes "R")) ∷ []) s.no_annotations))) ≡ (Some (reference a.Unauthorized (declared (c (codes "R" ∷ [])))))
a_reference_to_a_nested_resource = refl

-- `&C.fresh() as &C.S`
a_reference_to_no_place : type_of script (s.borrow (s.call (s.member (v (codes "C")) (n (codes "fresh"))) s.no_annotations s.no_arguments) (s.reference None (s.named ((n (codes "C")) ∷ (n (codes "S")) ∷ []) s.no_annotations))) ≡ None
a_reference_to_no_place = refl

-- `&f as &AnyStruct`
a_reference_to_a_reference : type_of script (s.borrow (v (codes "f")) (s.reference None (s.named ((n (codes "AnyStruct")) ∷ []) s.no_annotations))) ≡ None
a_reference_to_a_reference = refl

-- `&of as &AnyStruct`
a_reference_to_an_optional_reference : type_of script (s.borrow (v (codes "of")) (s.reference None (s.named ((n (codes "AnyStruct")) ∷ []) s.no_annotations))) ≡ None
a_reference_to_an_optional_reference = refl

-- `&any as &AnyStruct`
a_reference_to_anything : type_of script (s.borrow (v (codes "any")) (s.reference None (s.named ((n (codes "AnyStruct")) ∷ []) s.no_annotations))) ≡ (Some (reference a.Unauthorized (basic b.AnyStruct)))
a_reference_to_anything = refl

-- `&o as &Int?`
an_optional_reference : type_of script (s.borrow (v (codes "o")) (s.optional (s.reference None (s.named ((n (codes "Int")) ∷ []) s.no_annotations)))) ≡ (Some (optional (reference a.Unauthorized (basic (b.Number k.Int)))))
an_optional_reference = refl

-- `&o as &Int`
an_optional_reference_that_is_written_without : type_of script (s.borrow (v (codes "o")) (s.reference None (s.named ((n (codes "Int")) ∷ []) s.no_annotations))) ≡ (Some (optional (reference a.Unauthorized (basic (b.Number k.Int)))))
an_optional_reference_that_is_written_without = refl

-- `&o as &(Int?)`
a_reference_to_a_whole_optional : type_of script (s.borrow (v (codes "o")) (s.reference None (s.optional (s.named ((n (codes "Int")) ∷ []) s.no_annotations)))) ≡ (Some (optional (reference a.Unauthorized (optional (basic (b.Number k.Int))))))
a_reference_to_a_whole_optional = refl

-- `&o as &AnyStruct`
a_reference_above_an_optional : type_of script (s.borrow (v (codes "o")) (s.reference None (s.named ((n (codes "AnyStruct")) ∷ []) s.no_annotations))) ≡ (Some (optional (reference a.Unauthorized (basic b.AnyStruct))))
a_reference_above_an_optional = refl

-- `&x as &Int?`
an_optional_reference_to_no_optional : type_of script (s.borrow (v (codes "x")) (s.optional (s.reference None (s.named ((n (codes "Int")) ∷ []) s.no_annotations)))) ≡ None
an_optional_reference_to_no_optional = refl

-- `&C as &C`
a_reference_to_a_contract : type_of script (s.borrow (v (codes "C")) (s.reference None (s.named ((n (codes "C")) ∷ []) s.no_annotations))) ≡ (Some (reference a.Unauthorized (declared (c ([])))))
a_reference_to_a_contract = refl

-- `&self as &C`
no_reference_to_self_of_a_contract : type_of in_contract (s.borrow s.self (s.reference None (s.named ((n (codes "C")) ∷ []) s.no_annotations))) ≡ None
no_reference_to_self_of_a_contract = refl

-- `&self as &R`
a_reference_to_self : type_of in_resource (s.borrow s.self (s.reference None (s.named ((n (codes "R")) ∷ []) s.no_annotations))) ≡ (Some (reference a.Unauthorized (declared (c (codes "R" ∷ [])))))
a_reference_to_self = refl

-- `&f.n as &Int`
a_reference_to_what_is_copied_through_a_reference : type_of script (s.borrow (s.member (v (codes "f")) (n (codes "n"))) (s.reference None (s.named ((n (codes "Int")) ∷ []) s.no_annotations))) ≡ (Some (reference a.Unauthorized (basic (b.Number k.Int))))
a_reference_to_what_is_copied_through_a_reference = refl

-- `&f.list as &[Int]`
no_reference_to_what_is_read_as_a_reference : type_of script (s.borrow (s.member (v (codes "f")) (n (codes "list"))) (s.reference None (s.array (s.named ((n (codes "Int")) ∷ []) s.no_annotations)))) ≡ None
no_reference_to_what_is_read_as_a_reference = refl

-- `*h`
a_number_is_copied : type_of script (s.unary un.Dereference (v (codes "h"))) ≡ (Some (basic (b.Number k.Int)))
a_number_is_copied = refl

-- `*fa`
numbers_are_copied : type_of script (s.unary un.Dereference (v (codes "fa"))) ≡ (Some (array (basic (b.Number k.Int))))
numbers_are_copied = refl

-- `*f`
a_freshis_not_copied : type_of script (s.unary un.Dereference (v (codes "f"))) ≡ None
a_freshis_not_copied = refl

-- `*x`
only_references_are_followed : type_of script (s.unary un.Dereference (v (codes "x"))) ≡ None
only_references_are_followed = refl

-- `s as {C.SI}`
a_cast_up : type_of script (s.cast ca.Static (v (codes "s")) (an false (s.intersection (((n (codes "C")) ∷ (n (codes "SI")) ∷ []) ∷ [])))) ≡ (Some (intersection ((c (codes "SI" ∷ [])) ∷ [])))
a_cast_up = refl

-- `x as Int?`
a_cast_that_wraps : type_of script (s.cast ca.Static (v (codes "x")) (an false (s.optional (s.named ((n (codes "Int")) ∷ []) s.no_annotations)))) ≡ (Some (optional (basic (b.Number k.Int))))
a_cast_that_wraps = refl

-- `1 as UInt8`
a_cast_expects_its_type : type_of script (s.cast ca.Static (s.whole 1 false) (an false (s.named ((n (codes "UInt8")) ∷ []) s.no_annotations))) ≡ (Some (basic (b.Number k.UInt8)))
a_cast_expects_its_type = refl

-- `any as Int`
a_cast_down : type_of script (s.cast ca.Static (v (codes "any")) (an false (s.named ((n (codes "Int")) ∷ []) s.no_annotations))) ≡ None
a_cast_down = refl

-- `any as? Int`
a_cast_that_may_fail : type_of script (s.cast ca.Failable (v (codes "any")) (an false (s.named ((n (codes "Int")) ∷ []) s.no_annotations))) ≡ (Some (optional (basic (b.Number k.Int))))
a_cast_that_may_fail = refl

-- `any as! Int`
a_cast_that_is_forced : type_of script (s.cast ca.Forced (v (codes "any")) (an false (s.named ((n (codes "Int")) ∷ []) s.no_annotations))) ≡ (Some (basic (b.Number k.Int)))
a_cast_that_is_forced = refl

-- `s as? @C.R`
a_freshis_cast_to_no_resource : type_of script (s.cast ca.Failable (v (codes "s")) (an true (s.named ((n (codes "C")) ∷ (n (codes "R")) ∷ []) s.no_annotations))) ≡ None
a_freshis_cast_to_no_resource = refl

-- `r as? @C.R`
a_resource_is_cast_by_if_let_alone : type_of script (s.cast ca.Failable (v (codes "r")) (an true (s.named ((n (codes "C")) ∷ (n (codes "R")) ∷ []) s.no_annotations))) ≡ None
a_resource_is_cast_by_if_let_alone = refl

-- `f as! auth(C.E) &C.S`
a_cast_gains_no_rights : type_of script (s.cast ca.Forced (v (codes "f")) (an false (s.reference (Some (w.All (((n (codes "C")) ∷ (n (codes "E")) ∷ []) ∷ []))) (s.named ((n (codes "C")) ∷ (n (codes "S")) ∷ []) s.no_annotations)))) ≡ None
a_cast_gains_no_rights = refl

-- `g as! &{C.SI}`
a_cast_of_a_reference : type_of script (s.cast ca.Forced (v (codes "g")) (an false (s.reference None (s.intersection (((n (codes "C")) ∷ (n (codes "SI")) ∷ []) ∷ []))))) ≡ (Some (reference a.Unauthorized (intersection ((c (codes "SI" ∷ [])) ∷ []))))
a_cast_of_a_reference = refl

-- `any as? {[Int]: Int}`
a_cast_to_a_key_type_that_is_none : type_of script (s.cast ca.Failable (v (codes "any")) (an false (s.dictionary (s.array (s.named ((n (codes "Int")) ∷ []) s.no_annotations)) (s.named ((n (codes "Int")) ∷ []) s.no_annotations)))) ≡ None
a_cast_to_a_key_type_that_is_none = refl

-- `([] as [Never]) as @AnyResource`
an_array_of_nothing_is_of_any_resource : type_of script (s.cast ca.Static (s.cast ca.Static (s.list s.no_exprs) (an false (s.array (s.named ((n (codes "Never")) ∷ []) s.no_annotations)))) (an true (s.named ((n (codes "AnyResource")) ∷ []) s.no_annotations))) ≡ (Some (basic b.AnyResource))
an_array_of_nothing_is_of_any_resource = refl

-- `*(&ao as &[Int?])`
optionals_are_not_copied : type_of script (s.unary un.Dereference (s.borrow (v (codes "ao")) (s.reference None (s.array (s.optional (s.named ((n (codes "Int")) ∷ []) s.no_annotations)))))) ≡ None
optionals_are_not_copied = refl

-- `any as? {C.SI, C.RI}`
a_cast_to_interfaces_of_both_sorts : type_of script (s.cast ca.Failable (v (codes "any")) (an false (s.intersection (((n (codes "C")) ∷ (n (codes "SI")) ∷ []) ∷ ((n (codes "C")) ∷ (n (codes "RI")) ∷ []) ∷ [])))) ≡ None
a_cast_to_interfaces_of_both_sorts = refl
