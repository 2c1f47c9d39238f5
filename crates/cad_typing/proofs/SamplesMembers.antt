-- Members: what is served, and what is read through references.
use Rattle.std.specs.Prelude.{ℕ, Bool, true, false, Option, Some, None, List, [], ◌∷◌, codes}
use Rattle.std.specs.Prelude.{◌≡◌, refl}
use Rattle.cad_syntax.specs.Types.{PureType, basic, optional, array, dictionary, intersection, declared, reference, capability, capability_of}
use Rattle.cad_syntax.specs.declared.kind.Kind.TheVariants as k
use Rattle.cad_syntax.specs.declared.types.Basic.TheVariants as b
use Rattle.cad_syntax.specs.declared.types.Authorization.TheVariants as a
use Rattle.cad_types.specs.declared.builtin.Builtin.TheVariants as m
use Rattle.cad_grammar.specs.Trees as s
use Rattle.cad_grammar.specs.declared.type_expr.Entitlements.TheVariants as w
use Rattle.cad_grammar.specs.declared.expression.UnaryOperator.TheVariants as un
use Rattle.cad_grammar.specs.declared.expression.BinaryOperator.TheVariants as bi
use Rattle.cad_grammar.specs.declared.expression.CastKind.TheVariants as ca
use Rattle.cad_declarations.specs.Names.{built_in}
use Rattle.cad_declarations.specs.Typed as e
use Rattle.cad_typing.proofs.SampleProgram.{n, v, an, storage_path, public_path, c, script, in_struct, in_resource, in_init, in_contract, in_contract_init, in_interface, in_prepare, in_execute, after_function, after_interface, type_of, type_moved, type_expected, term_of, target_of, event_of, arrays, deep_script}

-- `s.n`
a_field : type_of script (s.member (v (codes "s")) (n (codes "n"))) ≡ (Some (basic (b.Number k.Int)))
a_field = refl

-- `s.nope`
no_such_field : type_of script (s.member (v (codes "s")) (n (codes "nope"))) ≡ None
no_such_field = refl

-- `s.si`
a_function_is_called : type_of script (s.member (v (codes "s")) (n (codes "si"))) ≡ None
a_function_is_called = refl

-- `os.n`
a_field_of_an_optional : type_of script (s.member (v (codes "os")) (n (codes "n"))) ≡ None
a_field_of_an_optional = refl

-- `s.own`
a_field_of_its_own_type_outside : type_of script (s.member (v (codes "s")) (n (codes "own"))) ≡ None
a_field_of_its_own_type_outside = refl

-- `s.own`
a_field_of_its_own_type_inside : type_of in_struct (s.member (v (codes "s")) (n (codes "own"))) ≡ (Some (basic (b.Number k.Int)))
a_field_of_its_own_type_inside = refl

-- `s.own`
a_field_of_its_own_type_in_the_contract : type_of in_contract (s.member (v (codes "s")) (n (codes "own"))) ≡ None
a_field_of_its_own_type_in_the_contract = refl

-- `s.con`
a_field_of_the_contract_outside : type_of script (s.member (v (codes "s")) (n (codes "con"))) ≡ None
a_field_of_the_contract_outside = refl

-- `s.con`
a_field_of_the_contract_inside : type_of in_resource (s.member (v (codes "s")) (n (codes "con"))) ≡ (Some (basic (b.Number k.Int)))
a_field_of_the_contract_inside = refl

-- `s.acc`
a_field_of_the_account_outside : type_of script (s.member (v (codes "s")) (n (codes "acc"))) ≡ None
a_field_of_the_account_outside = refl

-- `s.acc`
a_field_of_the_account_inside : type_of in_contract (s.member (v (codes "s")) (n (codes "acc"))) ≡ (Some (basic (b.Number k.Int)))
a_field_of_the_account_inside = refl

-- `s.guarded()`
an_owner_has_all_rights : type_of script (s.call (s.member (v (codes "s")) (n (codes "guarded"))) s.no_annotations s.no_arguments) ≡ (Some (basic (b.Number k.Int)))
an_owner_has_all_rights = refl

-- `f.guarded()`
a_reference_has_no_rights : type_of script (s.call (s.member (v (codes "f")) (n (codes "guarded"))) s.no_annotations s.no_arguments) ≡ None
a_reference_has_no_rights = refl

-- `g.guarded()`
a_reference_with_rights : type_of script (s.call (s.member (v (codes "g")) (n (codes "guarded"))) s.no_annotations s.no_arguments) ≡ (Some (basic (b.Number k.Int)))
a_reference_with_rights = refl

-- `g.either()`
either_right_is_enough : type_of script (s.call (s.member (v (codes "g")) (n (codes "either"))) s.no_annotations s.no_arguments) ≡ (Some (basic (b.Number k.Int)))
either_right_is_enough = refl

-- `g.secret`
a_field_with_rights_through_a_reference : type_of script (s.member (v (codes "g")) (n (codes "secret"))) ≡ (Some (basic (b.Number k.Int)))
a_field_with_rights_through_a_reference = refl

-- `f.secret`
a_field_with_rights_through_a_reference_without : type_of script (s.member (v (codes "f")) (n (codes "secret"))) ≡ None
a_field_with_rights_through_a_reference_without = refl

-- `s.mapped`
a_mapped_field_of_an_owner : type_of script (s.member (v (codes "s")) (n (codes "mapped"))) ≡ (Some (declared (c (codes "P" ∷ []))))
a_mapped_field_of_an_owner = refl

-- `g.mapped`
a_mapped_field_through_a_reference : type_of script (s.member (v (codes "g")) (n (codes "mapped"))) ≡ (Some (reference (a.All ((c (codes "F" ∷ [])) ∷ [])) (declared (c (codes "P" ∷ [])))))
a_mapped_field_through_a_reference = refl

-- `f.mapped`
a_mapped_field_through_a_reference_without_rights : type_of script (s.member (v (codes "f")) (n (codes "mapped"))) ≡ (Some (reference a.Unauthorized (declared (c (codes "P" ∷ [])))))
a_mapped_field_through_a_reference_without_rights = refl

-- `g.number`
a_mapped_number_through_a_reference : type_of script (s.member (v (codes "g")) (n (codes "number"))) ≡ (Some (basic (b.Number k.Int)))
a_mapped_number_through_a_reference = refl

-- `g.mapped.f()`
rights_of_a_mapped_field : type_of script (s.call (s.member (s.member (v (codes "g")) (n (codes "mapped"))) (n (codes "f"))) s.no_annotations s.no_arguments) ≡ (Some (basic (b.Number k.Int)))
rights_of_a_mapped_field = refl

-- `f.mapped.f()`
no_rights_of_a_mapped_field : type_of script (s.call (s.member (s.member (v (codes "f")) (n (codes "mapped"))) (n (codes "f"))) s.no_annotations s.no_arguments) ≡ None
no_rights_of_a_mapped_field = refl

-- `g.image()`
a_mapped_function : type_of script (s.call (s.member (v (codes "g")) (n (codes "image"))) s.no_annotations s.no_arguments) ≡ (Some (basic (b.Number k.Int)))
a_mapped_function = refl

-- `f.list`
a_container_through_a_reference : type_of script (s.member (v (codes "f")) (n (codes "list"))) ≡ (Some (reference a.Unauthorized (array (basic (b.Number k.Int)))))
a_container_through_a_reference = refl

-- `f.inner`
a_composite_through_a_reference : type_of script (s.member (v (codes "f")) (n (codes "inner"))) ≡ (Some (reference a.Unauthorized (declared (c (codes "P" ∷ [])))))
a_composite_through_a_reference = refl

-- `f.maybe`
an_optional_composite_through_a_reference : type_of script (s.member (v (codes "f")) (n (codes "maybe"))) ≡ (Some (optional (reference a.Unauthorized (declared (c (codes "P" ∷ []))))))
an_optional_composite_through_a_reference = refl

-- `f.color`
an_enum_through_a_reference : type_of script (s.member (v (codes "f")) (n (codes "color"))) ≡ (Some (reference a.Unauthorized (declared (c (codes "Color" ∷ [])))))
an_enum_through_a_reference = refl

-- `f.any`
anything_through_a_reference_is_copied : type_of script (s.member (v (codes "f")) (n (codes "any"))) ≡ (Some (basic b.AnyStruct))
anything_through_a_reference_is_copied = refl

-- `f.n`
a_number_through_a_reference_is_copied : type_of script (s.member (v (codes "f")) (n (codes "n"))) ≡ (Some (basic (b.Number k.Int)))
a_number_through_a_reference_is_copied = refl

-- `rr.child`
a_resource_field_through_a_reference : type_of script (s.member (v (codes "rr")) (n (codes "child"))) ≡ (Some (optional (reference a.Unauthorized (declared (c (codes "R" ∷ []))))))
a_resource_field_through_a_reference = refl

-- `rr.list[0]`
an_element_through_a_reference : type_of script (s.index (s.member (v (codes "rr")) (n (codes "list"))) (s.whole 0 false)) ≡ (Some (reference a.Unauthorized (declared (c (codes "R" ∷ [])))))
an_element_through_a_reference = refl

-- `rr.map["a"]`
what_stands_under_a_key_through_a_reference : type_of script (s.index (s.member (v (codes "rr")) (n (codes "map"))) (s.text (97 ∷ []))) ≡ (Some (optional (reference a.Unauthorized (declared (c (codes "R" ∷ []))))))
what_stands_under_a_key_through_a_reference = refl

-- `r.child`
a_nested_resource_does_not_leave : type_of script (s.member (v (codes "r")) (n (codes "child"))) ≡ None
a_nested_resource_does_not_leave = refl

-- `l[0]`
an_element_that_is_a_resource_does_not_leave : type_of script (s.index (v (codes "l")) (s.whole 0 false)) ≡ None
an_element_that_is_a_resource_does_not_leave = refl

-- `(&d as &{String: Int}).keys`
keys_through_a_reference : type_of script (s.member (s.borrow (v (codes "d")) (s.reference None (s.dictionary (s.named ((n (codes "String")) ∷ []) s.no_annotations) (s.named ((n (codes "Int")) ∷ []) s.no_annotations)))) (n (codes "keys"))) ≡ (Some (array (basic b.String)))
keys_through_a_reference = refl

-- `r.uuid`
an_identity : type_of script (s.member (v (codes "r")) (n (codes "uuid"))) ≡ (Some (basic (b.Number k.UInt64)))
an_identity = refl

-- `rr.owner`
an_owner : type_of script (s.member (v (codes "rr")) (n (codes "owner"))) ≡ (Some (optional (reference a.Unauthorized (basic b.Account))))
an_owner = refl

-- `s.uuid`
no_identity_of_a_struct : type_of script (s.member (v (codes "s")) (n (codes "uuid"))) ≡ None
no_identity_of_a_struct = refl

-- `self.account`
an_account_of_the_contract : type_of in_contract (s.member s.self (n (codes "account"))) ≡ (Some (reference (a.All ((built_in (codes "Storage")) ∷ (built_in (codes "Contracts")) ∷ (built_in (codes "Keys")) ∷ (built_in (codes "Inbox")) ∷ (built_in (codes "Capabilities")) ∷ [])) (basic b.Account)))
an_account_of_the_contract = refl

-- `C.account.address`
the_account_inside_the_contract : type_of in_struct (s.member (s.member (v (codes "C")) (n (codes "account"))) (n (codes "address"))) ≡ (Some (basic (b.Number k.Address)))
the_account_inside_the_contract = refl

-- `C.account`
the_account_outside : type_of script (s.member (v (codes "C")) (n (codes "account"))) ≡ None
the_account_outside = refl

-- `acc.storage`
a_part_of_an_account_carries_the_rights : type_of script (s.member (v (codes "acc")) (n (codes "storage"))) ≡ (Some (reference (a.All ((built_in (codes "Storage")) ∷ [])) (basic b.AccountStorage)))
a_part_of_an_account_carries_the_rights = refl

-- `acc.storage.load<Int>(from: /storage/a)`
rights_on_storage : type_of script (s.call (s.member (s.member (v (codes "acc")) (n (codes "storage"))) (n (codes "load"))) (s.annotations false (s.named ((n (codes "Int")) ∷ []) s.no_annotations) s.no_annotations) (s.arguments (Some (n (codes "from"))) (storage_path (codes "a")) s.no_arguments)) ≡ (Some (optional (basic (b.Number k.Int))))
rights_on_storage = refl

-- `acc.capabilities.unpublish(/public/a)`
no_rights_on_capabilities : type_of script (s.call (s.member (s.member (v (codes "acc")) (n (codes "capabilities"))) (n (codes "unpublish"))) s.no_annotations (s.arguments None (public_path (codes "a")) s.no_arguments)) ≡ None
no_rights_on_capabilities = refl

-- `C.Color.red.rawValue`
a_raw_value : type_of script (s.member (s.member (s.member (v (codes "C")) (n (codes "Color"))) (n (codes "red"))) (n (codes "rawValue"))) ≡ (Some (basic (b.Number k.UInt8)))
a_raw_value = refl

-- `f.color.rawValue`
a_raw_value_through_a_reference : type_of script (s.member (s.member (v (codes "f")) (n (codes "color"))) (n (codes "rawValue"))) ≡ (Some (basic (b.Number k.UInt8)))
a_raw_value_through_a_reference = refl

-- `Int8.min`
the_least_of_a_kind : type_of script (s.member (v (codes "Int8")) (n (codes "min"))) ≡ (Some (basic (b.Number k.Int8)))
the_least_of_a_kind = refl

-- `Int.min`
no_least_of_Int : type_of script (s.member (v (codes "Int")) (n (codes "min"))) ≡ None
no_least_of_Int = refl

-- `o.getType()`
the_type_of_anything : type_of script (s.call (s.member (v (codes "o")) (n (codes "getType"))) s.no_annotations s.no_arguments) ≡ (Some (basic b.Meta))
the_type_of_anything = refl

-- `r.getType()`
the_type_of_a_resource : type_of script (s.call (s.member (v (codes "r")) (n (codes "getType"))) s.no_annotations s.no_arguments) ≡ (Some (basic b.Meta))
the_type_of_a_resource = refl

-- `a[u]`
an_element : type_of script (s.index (v (codes "a")) (v (codes "u"))) ≡ (Some (basic (b.Number k.Int)))
an_element = refl

-- `a[1.0]`
an_index_of_the_wrong_kind : type_of script (s.index (v (codes "a")) (s.fixed 100000000)) ≡ None
an_index_of_the_wrong_kind = refl

-- `d["a"]`
what_stands_under_a_key : type_of script (s.index (v (codes "d")) (s.text (97 ∷ []))) ≡ (Some (optional (basic (b.Number k.Int))))
what_stands_under_a_key = refl

-- `d[1]`
a_key_of_the_wrong_type : type_of script (s.index (v (codes "d")) (s.whole 1 false)) ≡ None
a_key_of_the_wrong_type = refl

-- `os[0]`
an_index_of_an_optional : type_of script (s.index (v (codes "os")) (s.whole 0 false)) ≡ None
an_index_of_an_optional = refl

-- `C.make().n`
a_receiver_of_resource_type_is_a_place : type_of script (s.member (s.call (s.member (v (codes "C")) (n (codes "make"))) s.no_annotations s.no_arguments) (n (codes "n"))) ≡ None
a_receiver_of_resource_type_is_a_place = refl

-- `C.fresh().n`
a_receiver_of_any_other_type : type_of script (s.member (s.call (s.member (v (codes "C")) (n (codes "fresh"))) s.no_annotations s.no_arguments) (n (codes "n"))) ≡ (Some (basic (b.Number k.Int)))
a_receiver_of_any_other_type = refl

-- `si.si()`
a_member_of_an_intersection : type_of script (s.call (s.member (v (codes "si")) (n (codes "si"))) s.no_annotations s.no_arguments) ≡ (Some (basic (b.Number k.Int)))
a_member_of_an_intersection = refl

-- `si.n`
only_what_the_interface_has : type_of script (s.member (v (codes "si")) (n (codes "n"))) ≡ None
only_what_the_interface_has = refl

-- `eg.two()`
a_mapped_function_without_an_image : type_of script (s.call (s.member (v (codes "eg")) (n (codes "two"))) s.no_annotations s.no_arguments) ≡ None
a_mapped_function_without_an_image = refl

-- `s.quiet()`
an_inherited_function_of_its_own_type : type_of in_struct (s.call (s.member (v (codes "s")) (n (codes "quiet"))) s.no_annotations s.no_arguments) ≡ (Some (basic (b.Number k.Int)))
an_inherited_function_of_its_own_type = refl

-- `si.quiet()`
a_function_of_the_interface_itself : type_of in_struct (s.call (s.member (v (codes "si")) (n (codes "quiet"))) s.no_annotations s.no_arguments) ≡ None
a_function_of_the_interface_itself = refl

-- `ar.uuid`
no_identity_of_any_resource : type_of script (s.member (v (codes "ar")) (n (codes "uuid"))) ≡ None
no_identity_of_any_resource = refl

-- `ar.getType()`
the_type_of_any_resource : type_of script (s.call (s.member (v (codes "ar")) (n (codes "getType"))) s.no_annotations s.no_arguments) ≡ (Some (basic b.Meta))
the_type_of_any_resource = refl

-- `acv.address`
an_account_that_is_no_reference : type_of script (s.member (v (codes "acv")) (n (codes "address"))) ≡ None
an_account_that_is_no_reference = refl

-- `acv.getType()`
the_type_of_an_account_that_is_no_reference : type_of script (s.call (s.member (v (codes "acv")) (n (codes "getType"))) s.no_annotations s.no_arguments) ≡ (Some (basic b.Meta))
the_type_of_an_account_that_is_no_reference = refl

-- `ctl.tag`
a_controller_that_is_no_reference : type_of script (s.member (v (codes "ctl")) (n (codes "tag"))) ≡ None
a_controller_that_is_no_reference = refl
