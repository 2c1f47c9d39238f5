-- Operators, comparisons and choices.
use Rattle.std.specs.Prelude.{ℕ, Bool, true, false, Option, Some, None, List, [], ◌∷◌, codes}
use Rattle.std.specs.Prelude.{◌≡◌, refl}
use Rattle.cad_syntax.specs.Types.{PureType, basic, optional, array, dictionary, intersection, declared, reference, capability, capability_of}
use Rattle.cad_syntax.specs.declared.kind.Kind.TheVariants as k
use Rattle.cad_syntax.specs.declared.types.Basic.TheVariants as b
use Rattle.cad_syntax.specs.declared.types.Authorization.TheVariants as a
use Rattle.cad_types.specs.declared.builtin.Builtin.TheVariants as m
use Rattle.cad_grammar.specs.Trees as s
use Rattle.cad_grammar.specs.declared.type_expr.Entitlements.TheVariants as w
use Rattle.cad_grammar.specs.declared.expression.UnaryOperator.TheVariants as un
use Rattle.cad_grammar.specs.declared.expression.BinaryOperator.TheVariants as bi
use Rattle.cad_grammar.specs.declared.expression.CastKind.TheVariants as ca
use Rattle.cad_declarations.specs.Names.{built_in}
use Rattle.cad_declarations.specs.Typed as e
use Rattle.cad_typing.proofs.SampleProgram.{n, v, an, storage_path, public_path, c, script, in_struct, in_resource, in_init, in_contract, in_contract_init, in_interface, in_prepare, in_execute, after_function, after_interface, type_of, type_moved, type_expected, term_of, target_of, event_of, arrays, deep_script}

-- `u + 1`
a_sum : type_of script (s.binary bi.Add (v (codes "u")) (s.whole 1 false)) ≡ (Some (basic (b.Number k.UInt8)))
a_sum = refl

-- `1 + u`
the_right_operand_is_of_the_left_kind : type_of script (s.binary bi.Add (s.whole 1 false) (v (codes "u"))) ≡ None
the_right_operand_is_of_the_left_kind = refl

-- `1 + u` where UInt8 is expected
the_left_operand_expects_what_the_form_expects : type_expected script (basic (b.Number k.UInt8)) (s.binary bi.Add (s.whole 1 false) (v (codes "u"))) ≡ (Some (basic (b.Number k.UInt8)))
the_left_operand_expects_what_the_form_expects = refl

-- `at + at`
addresses_are_no_numbers : type_of script (s.binary bi.Add (v (codes "at")) (v (codes "at"))) ≡ None
addresses_are_no_numbers = refl

-- `t + t`
texts_are_not_added : type_of script (s.binary bi.Add (v (codes "t")) (v (codes "t"))) ≡ None
texts_are_not_added = refl

-- `u & 1`
bits : type_of script (s.binary bi.BitAnd (v (codes "u")) (s.whole 1 false)) ≡ (Some (basic (b.Number k.UInt8)))
bits = refl

-- `q & q`
bits_of_no_integer : type_of script (s.binary bi.BitAnd (v (codes "q")) (v (codes "q"))) ≡ None
bits_of_no_integer = refl

-- `-x`
a_sign : type_of script (s.unary un.Negate (v (codes "x"))) ≡ (Some (basic (b.Number k.Int)))
a_sign = refl

-- `-u`
a_sign_of_an_unsigned_kind : type_of script (s.unary un.Negate (v (codes "u"))) ≡ None
a_sign_of_an_unsigned_kind = refl

-- `-w`
a_sign_of_a_word : type_of script (s.unary un.Negate (v (codes "w"))) ≡ None
a_sign_of_a_word = refl

-- `!b`
no_truth : type_of script (s.unary un.Not (v (codes "b"))) ≡ (Some (basic b.Bool))
no_truth = refl

-- `!panic("")`
never_stands_for_a_truth : type_of script (s.unary un.Not (s.call (v (codes "panic")) s.no_annotations (s.arguments None (s.text []) s.no_arguments))) ≡ (Some (basic b.Bool))
never_stands_for_a_truth = refl

-- `!x`
a_number_is_no_truth : type_of script (s.unary un.Not (v (codes "x"))) ≡ None
a_number_is_no_truth = refl

-- `u < 2`
an_order : type_of script (s.binary bi.Less (v (codes "u")) (s.whole 2 false)) ≡ (Some (basic b.Bool))
an_order = refl

-- `b < true`
an_order_of_truths : type_of script (s.binary bi.Less (v (codes "b")) (s.bool true)) ≡ (Some (basic b.Bool))
an_order_of_truths = refl

-- `t < t`
an_order_of_texts : type_of script (s.binary bi.Less (v (codes "t")) (v (codes "t"))) ≡ (Some (basic b.Bool))
an_order_of_texts = refl

-- `ch < t`
a_character_and_a_text : type_of script (s.binary bi.Less (v (codes "ch")) (v (codes "t"))) ≡ None
a_character_and_a_text = refl

-- `at < at`
no_order_of_addresses : type_of script (s.binary bi.Less (v (codes "at")) (v (codes "at"))) ≡ None
no_order_of_addresses = refl

-- `u == 2`
equal : type_of script (s.binary bi.Equal (v (codes "u")) (s.whole 2 false)) ≡ (Some (basic b.Bool))
equal = refl

-- `2 == u`
equal_the_other_way_round : type_of script (s.binary bi.Equal (s.whole 2 false) (v (codes "u"))) ≡ None
equal_the_other_way_round = refl

-- `p == /public/a`
equal_paths : type_of script (s.binary bi.Equal (v (codes "p")) (public_path (codes "a"))) ≡ (Some (basic b.Bool))
equal_paths = refl

-- `/storage/a == /public/a`
unequal_paths : type_of script (s.binary bi.Equal (storage_path (codes "a")) (public_path (codes "a"))) ≡ None
unequal_paths = refl

-- `a == [1]`
equal_arrays : type_of script (s.binary bi.Equal (v (codes "a")) (s.list (s.exprs (s.whole 1 false) s.no_exprs))) ≡ (Some (basic b.Bool))
equal_arrays = refl

-- `C.Color.red == C.Color.blue`
equal_cases : type_of script (s.binary bi.Equal (s.member (s.member (v (codes "C")) (n (codes "Color"))) (n (codes "red"))) (s.member (s.member (v (codes "C")) (n (codes "Color"))) (n (codes "blue")))) ≡ (Some (basic b.Bool))
equal_cases = refl

-- `s == s`
structs_have_no_equality : type_of script (s.binary bi.Equal (v (codes "s")) (v (codes "s"))) ≡ None
structs_have_no_equality = refl

-- `h == h`
references_have_no_equality : type_of script (s.binary bi.Equal (v (codes "h")) (v (codes "h"))) ≡ None
references_have_no_equality = refl

-- `any == any`
anything_has_no_equality : type_of script (s.binary bi.Equal (v (codes "any")) (v (codes "any"))) ≡ None
anything_has_no_equality = refl

-- `os == nil`
nil_beside_an_optional : type_of script (s.binary bi.Equal (v (codes "os")) s.nil) ≡ (Some (basic b.Bool))
nil_beside_an_optional = refl

-- `nil == nil`
nil_beside_nil : type_of script (s.binary bi.Equal s.nil s.nil) ≡ (Some (basic b.Bool))
nil_beside_nil = refl

-- `x == nil`
nil_beside_no_optional : type_of script (s.binary bi.Equal (v (codes "x")) s.nil) ≡ None
nil_beside_no_optional = refl

-- `or == nil`
nil_beside_a_resource : type_of script (s.binary bi.Equal (v (codes "or")) s.nil) ≡ (Some (basic b.Bool))
nil_beside_a_resource = refl

-- `nil != r.child`
nil_beside_a_nested_resource : type_of script (s.binary bi.NotEqual s.nil (s.member (v (codes "r")) (n (codes "child")))) ≡ (Some (basic b.Bool))
nil_beside_a_nested_resource = refl

-- `C.maybe() == nil`
nil_beside_a_resource_that_is_no_place : type_of script (s.binary bi.Equal (s.call (s.member (v (codes "C")) (n (codes "maybe"))) s.no_annotations s.no_arguments) s.nil) ≡ None
nil_beside_a_resource_that_is_no_place = refl

-- `b && panic("")`
both : type_of script (s.binary bi.And (v (codes "b")) (s.call (v (codes "panic")) s.no_annotations (s.arguments None (s.text []) s.no_arguments))) ≡ (Some (basic b.Bool))
both = refl

-- `b || x`
either_of_no_truths : type_of script (s.binary bi.Or (v (codes "b")) (v (codes "x"))) ≡ None
either_of_no_truths = refl

-- `b ? 1 : x`
a_choice : type_of script (s.conditional (v (codes "b")) (s.whole 1 false) (v (codes "x"))) ≡ (Some (basic (b.Number k.Int)))
a_choice = refl

-- `b ? /storage/a : p`
the_upper_of_two_types : type_of script (s.conditional (v (codes "b")) (storage_path (codes "a")) (v (codes "p"))) ≡ (Some (basic b.Path))
the_upper_of_two_types = refl

-- `b ? 1 : t`
neither_type_is_above : type_of script (s.conditional (v (codes "b")) (s.whole 1 false) (v (codes "t"))) ≡ None
neither_type_is_above = refl

-- `b ? 1 : nil` where Int? is expected
branches_are_not_wrapped : type_expected script (optional (basic (b.Number k.Int))) (s.conditional (v (codes "b")) (s.whole 1 false) s.nil) ≡ None
branches_are_not_wrapped = refl

-- `b ? 1 : 2` where UInt8 is expected
branches_expect_what_the_form_expects : type_expected script (basic (b.Number k.UInt8)) (s.conditional (v (codes "b")) (s.whole 1 false) (s.whole 2 false)) ≡ (Some (basic (b.Number k.UInt8)))
branches_expect_what_the_form_expects = refl

-- `b ? C.make() : C.make()`
no_choice_of_resources : type_of script (s.conditional (v (codes "b")) (s.call (s.member (v (codes "C")) (n (codes "make"))) s.no_annotations s.no_arguments) (s.call (s.member (v (codes "C")) (n (codes "make"))) s.no_annotations s.no_arguments)) ≡ None
no_choice_of_resources = refl

-- `o ?? 1`
a_default : type_of script (s.binary bi.Coalesce (v (codes "o")) (s.whole 1 false)) ≡ (Some (basic (b.Number k.Int)))
a_default = refl

-- `o ?? o`
an_optional_default : type_of script (s.binary bi.Coalesce (v (codes "o")) (v (codes "o"))) ≡ (Some (optional (basic (b.Number k.Int))))
an_optional_default = refl

-- `o ?? t`
a_default_of_another_type : type_of script (s.binary bi.Coalesce (v (codes "o")) (v (codes "t"))) ≡ None
a_default_of_another_type = refl

-- `o ?? panic("")`
a_default_that_never_ends : type_of script (s.binary bi.Coalesce (v (codes "o")) (s.call (v (codes "panic")) s.no_annotations (s.arguments None (s.text []) s.no_arguments))) ≡ (Some (basic (b.Number k.Int)))
a_default_that_never_ends = refl

-- `oo ?? 1`
a_default_that_is_wrapped : type_of script (s.binary bi.Coalesce (v (codes "oo")) (s.whole 1 false)) ≡ (Some (optional (basic (b.Number k.Int))))
a_default_that_is_wrapped = refl

-- `x ?? 1`
a_default_of_no_optional : type_of script (s.binary bi.Coalesce (v (codes "x")) (s.whole 1 false)) ≡ None
a_default_of_no_optional = refl

-- `o!`
a_content : type_of script (s.force (v (codes "o"))) ≡ (Some (basic (b.Number k.Int)))
a_content = refl

-- `x!`
a_content_of_no_optional : type_of script (s.force (v (codes "x"))) ≡ None
a_content_of_no_optional = refl

-- `nil!`
a_content_of_nil : type_of script (s.force s.nil) ≡ (Some (basic b.Never))
a_content_of_nil = refl
