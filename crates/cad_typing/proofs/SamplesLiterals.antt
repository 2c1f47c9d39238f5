-- Literals, arrays and dictionaries.
use Rattle.std.specs.Prelude.{ℕ, Bool, true, false, Option, Some, None, List, [], ◌∷◌, codes}
use Rattle.std.specs.Prelude.{◌≡◌, refl}
use Rattle.cad_syntax.specs.Types.{PureType, basic, optional, array, dictionary, intersection, declared, reference, capability, capability_of}
use Rattle.cad_syntax.specs.declared.kind.Kind.TheVariants as k
use Rattle.cad_syntax.specs.declared.types.Basic.TheVariants as b
use Rattle.cad_syntax.specs.declared.types.Authorization.TheVariants as a
use Rattle.cad_types.specs.declared.builtin.Builtin.TheVariants as m
use Rattle.cad_grammar.specs.Trees as s
use Rattle.cad_grammar.specs.declared.type_expr.Entitlements.TheVariants as w
use Rattle.cad_grammar.specs.declared.expression.UnaryOperator.TheVariants as un
use Rattle.cad_grammar.specs.declared.expression.BinaryOperator.TheVariants as bi
use Rattle.cad_grammar.specs.declared.expression.CastKind.TheVariants as ca
use Rattle.cad_declarations.specs.Names.{built_in}
use Rattle.cad_declarations.specs.Typed as e
use Rattle.cad_typing.proofs.SampleProgram.{n, v, an, storage_path, public_path, c, script, in_struct, in_resource, in_init, in_contract, in_contract_init, in_interface, in_prepare, in_execute, after_function, after_interface, type_of, type_moved, type_expected, term_of, target_of, event_of, arrays, deep_script}

-- `1`
a_whole_literal : type_of script (s.whole 1 false) ≡ (Some (basic (b.Number k.Int)))
a_whole_literal = refl

-- `255` where UInt8 is expected
a_literal_of_a_kind : type_expected script (basic (b.Number k.UInt8)) (s.whole 255 false) ≡ (Some (basic (b.Number k.UInt8)))
a_literal_of_a_kind = refl

-- `255` where UInt8?? is expected
a_literal_of_a_kind_in_optionals : type_expected script (optional (optional (basic (b.Number k.UInt8)))) (s.whole 255 false) ≡ (Some (basic (b.Number k.UInt8)))
a_literal_of_a_kind_in_optionals = refl

-- `256` where UInt8 is expected
a_literal_out_of_range : type_expected script (basic (b.Number k.UInt8)) (s.whole 256 false) ≡ None
a_literal_out_of_range = refl

-- `1` where String is expected
a_literal_where_no_number_is_expected : type_expected script (basic b.String) (s.whole 1 false) ≡ None
a_literal_where_no_number_is_expected = refl

-- `-128` where Int8 is expected
a_negative_literal : type_expected script (basic (b.Number k.Int8)) (s.unary un.Negate (s.whole 128 false)) ≡ (Some (basic (b.Number k.Int8)))
a_negative_literal = refl

-- `-129` where Int8 is expected
a_negative_literal_out_of_range : type_expected script (basic (b.Number k.Int8)) (s.unary un.Negate (s.whole 129 false)) ≡ None
a_negative_literal_out_of_range = refl

-- `-0` where UInt8 is expected
a_negative_literal_of_an_unsigned_kind : type_expected script (basic (b.Number k.UInt8)) (s.unary un.Negate (s.whole 0 false)) ≡ None
a_negative_literal_of_an_unsigned_kind = refl

-- `0x1` where Address is expected
an_address : type_expected script (basic (b.Number k.Address)) (s.whole 1 true) ≡ (Some (basic (b.Number k.Address)))
an_address = refl

-- `1` where Address is expected
an_address_is_hexadecimal : type_expected script (basic (b.Number k.Address)) (s.whole 1 false) ≡ None
an_address_is_hexadecimal = refl

-- `0x10000000000000000` where Address is expected
an_address_of_65_bits : type_expected script (basic (b.Number k.Address)) (s.whole 18446744073709551616 true) ≡ None
an_address_of_65_bits = refl

-- `0x1`
a_hexadecimal_literal : type_of script (s.whole 1 true) ≡ (Some (basic (b.Number k.Int)))
a_hexadecimal_literal = refl

-- `1.5`
a_fixed_literal : type_of script (s.fixed 150000000) ≡ (Some (basic (b.Number k.UFix64)))
a_fixed_literal = refl

-- `-1.5`
a_negative_fixed_literal : type_of script (s.unary un.Negate (s.fixed 150000000)) ≡ (Some (basic (b.Number k.Fix64)))
a_negative_fixed_literal = refl

-- `1.5` where Fix64 is expected
a_fixed_literal_of_a_kind : type_expected script (basic (b.Number k.Fix64)) (s.fixed 150000000) ≡ (Some (basic (b.Number k.Fix64)))
a_fixed_literal_of_a_kind = refl

-- `-1.5` where UFix64 is expected
a_negative_fixed_literal_of_an_unsigned_kind : type_expected script (basic (b.Number k.UFix64)) (s.unary un.Negate (s.fixed 150000000)) ≡ None
a_negative_fixed_literal_of_an_unsigned_kind = refl

-- `1` where UFix64 is expected
a_whole_literal_is_not_fixed : type_expected script (basic (b.Number k.UFix64)) (s.whole 1 false) ≡ None
a_whole_literal_is_not_fixed = refl

-- `"ab"`
a_text : type_of script (s.text (97 ∷ 98 ∷ [])) ≡ (Some (basic b.String))
a_text = refl

-- `true`
truth : type_of script (s.bool true) ≡ (Some (basic b.Bool))
truth = refl

-- `nil`
nil : type_of script s.nil ≡ (Some (optional (basic b.Never)))
nil = refl

-- `/public/a`
a_path : type_of script (public_path (codes "a")) ≡ (Some (basic b.PublicPath))
a_path = refl

-- `[1, 2]`
an_array : type_of script (s.list (s.exprs (s.whole 1 false) (s.exprs (s.whole 2 false) s.no_exprs))) ≡ (Some (array (basic (b.Number k.Int))))
an_array = refl

-- `[1, 2]` where [UInt8] is expected
an_array_of_a_kind : type_expected script (array (basic (b.Number k.UInt8))) (s.list (s.exprs (s.whole 1 false) (s.exprs (s.whole 2 false) s.no_exprs))) ≡ (Some (array (basic (b.Number k.UInt8))))
an_array_of_a_kind = refl

-- `[1, 256]` where [UInt8] is expected
an_array_whose_elements_do_not_fit : type_expected script (array (basic (b.Number k.UInt8))) (s.list (s.exprs (s.whole 1 false) (s.exprs (s.whole 256 false) s.no_exprs))) ≡ None
an_array_whose_elements_do_not_fit = refl

-- `[1]` where AnyStruct is expected
an_array_where_no_array_is_expected : type_expected script (basic b.AnyStruct) (s.list (s.exprs (s.whole 1 false) s.no_exprs)) ≡ (Some (array (basic (b.Number k.Int))))
an_array_where_no_array_is_expected = refl

-- `[/storage/a, p]`
the_first_type_above_all_others : type_of script (s.list (s.exprs (storage_path (codes "a")) (s.exprs (v (codes "p")) s.no_exprs))) ≡ (Some (array (basic b.Path)))
the_first_type_above_all_others = refl

-- `[/storage/a, /public/b]`
no_type_is_above_the_others : type_of script (s.list (s.exprs (storage_path (codes "a")) (s.exprs (public_path (codes "b")) s.no_exprs))) ≡ None
no_type_is_above_the_others = refl

-- `[1, o]`
elements_are_not_wrapped : type_of script (s.list (s.exprs (s.whole 1 false) (s.exprs (v (codes "o")) s.no_exprs))) ≡ None
elements_are_not_wrapped = refl

-- `[1, nil]` where [Int?] is expected
elements_are_wrapped_where_they_fit : type_expected script (array (optional (basic (b.Number k.Int)))) (s.list (s.exprs (s.whole 1 false) (s.exprs s.nil s.no_exprs))) ≡ (Some (array (optional (basic (b.Number k.Int)))))
elements_are_wrapped_where_they_fit = refl

-- `[]`
an_empty_array_has_no_type : type_of script (s.list s.no_exprs) ≡ None
an_empty_array_has_no_type = refl

-- `[]` where [Int]? is expected
an_empty_array_takes_the_type_that_is_expected : type_expected script (optional (array (basic (b.Number k.Int)))) (s.list s.no_exprs) ≡ (Some (array (basic (b.Number k.Int))))
an_empty_array_takes_the_type_that_is_expected = refl

-- `[]` where AnyStruct is expected
an_empty_array_takes_no_other_type : type_expected script (basic b.AnyStruct) (s.list s.no_exprs) ≡ None
an_empty_array_takes_no_other_type = refl

-- `{"a": 1}`
a_dictionary : type_of script (s.pairs (s.entries (s.text (97 ∷ [])) (s.whole 1 false) s.no_entries)) ≡ (Some (dictionary (basic b.String) (basic (b.Number k.Int))))
a_dictionary = refl

-- `{"a": 1}` where {String: UInt8?} is expected
a_dictionary_of_other_types : type_expected script (dictionary (basic b.String) (optional (basic (b.Number k.UInt8)))) (s.pairs (s.entries (s.text (97 ∷ [])) (s.whole 1 false) s.no_entries)) ≡ (Some (dictionary (basic b.String) (optional (basic (b.Number k.UInt8)))))
a_dictionary_of_other_types = refl

-- `{[1]: 1}`
arrays_are_no_keys : type_of script (s.pairs (s.entries (s.list (s.exprs (s.whole 1 false) s.no_exprs)) (s.whole 1 false) s.no_entries)) ≡ None
arrays_are_no_keys = refl

-- `{Type<Int>(): 1}`
types_are_keys : type_of script (s.pairs (s.entries (s.call (v (codes "Type")) (s.annotations false (s.named ((n (codes "Int")) ∷ []) s.no_annotations) s.no_annotations) s.no_arguments) (s.whole 1 false) s.no_entries)) ≡ (Some (dictionary (basic b.Meta) (basic (b.Number k.Int))))
types_are_keys = refl

-- `[<-C.make()]`
resources_stand_under_a_move : type_of script (s.list (s.exprs (s.unary un.Move (s.call (s.member (v (codes "C")) (n (codes "make"))) s.no_annotations s.no_arguments)) s.no_exprs)) ≡ (Some (array (declared (c (codes "R" ∷ [])))))
resources_stand_under_a_move = refl

-- `[C.make()]`
resources_do_not_stand_bare : type_of script (s.list (s.exprs (s.call (s.member (v (codes "C")) (n (codes "make"))) s.no_annotations s.no_arguments) s.no_exprs)) ≡ None
resources_do_not_stand_bare = refl

-- `[deep]`, where the type of `deep` nests 127, and 128
a_type_nests_at_most_128 : type_of (deep_script 127) (s.list (s.exprs (v (codes "deep")) s.no_exprs)) ≡ (Some (array (arrays 127)))
a_type_nests_at_most_128 = refl

-- the same where it nests 128
a_type_nests_no_more : type_of (deep_script 128) (s.list (s.exprs (v (codes "deep")) s.no_exprs)) ≡ None
a_type_nests_no_more = refl
