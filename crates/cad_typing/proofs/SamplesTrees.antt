-- The elaborated trees of receivers, chains and references.
use Rattle.std.specs.Prelude.{ℕ, Bool, true, false, Option, Some, None, List, [], ◌∷◌, codes}
use Rattle.std.specs.Prelude.{◌≡◌, refl}
use Rattle.cad_syntax.specs.Types.{PureType, basic, optional, array, dictionary, intersection, declared, reference, capability, capability_of}
use Rattle.cad_syntax.specs.declared.kind.Kind.TheVariants as k
use Rattle.cad_syntax.specs.declared.types.Basic.TheVariants as b
use Rattle.cad_syntax.specs.declared.types.Authorization.TheVariants as a
use Rattle.cad_types.specs.declared.builtin.Builtin.TheVariants as m
use Rattle.cad_grammar.specs.Trees as s
use Rattle.cad_grammar.specs.declared.type_expr.Entitlements.TheVariants as w
use Rattle.cad_grammar.specs.declared.expression.UnaryOperator.TheVariants as un
use Rattle.cad_grammar.specs.declared.expression.BinaryOperator.TheVariants as bi
use Rattle.cad_grammar.specs.declared.expression.CastKind.TheVariants as ca
use Rattle.cad_declarations.specs.Names.{built_in}
use Rattle.cad_declarations.specs.Typed as e
use Rattle.cad_typing.proofs.SampleProgram.{n, v, an, storage_path, public_path, c, script, in_struct, in_resource, in_init, in_contract, in_contract_init, in_interface, in_prepare, in_execute, after_function, after_interface, type_of, type_moved, type_expected, term_of, target_of, event_of, arrays, deep_script}

-- `s.n`
a_field_of_a_variable : term_of script (s.member (v (codes "s")) (n (codes "n"))) ≡ (Some (e.on (e.variable 8) (e.get (n (codes "n")) a.Unauthorized)))
a_field_of_a_variable = refl

-- `s.inner.m`
a_field_of_a_field : term_of script (s.member (s.member (v (codes "s")) (n (codes "inner"))) (n (codes "m"))) ≡ (Some (e.on (e.field (e.variable 8) (declared (c (codes "S" ∷ []))) (n (codes "inner"))) (e.get (n (codes "m")) a.Unauthorized)))
a_field_of_a_field = refl

-- `f.n`
a_field_through_a_reference : term_of script (s.member (v (codes "f")) (n (codes "n"))) ≡ (Some (e.on (e.target (e.copy (e.variable 12))) (e.get (n (codes "n")) a.Unauthorized)))
a_field_through_a_reference = refl

-- `g.mapped`
a_mapped_field_has_the_rights : term_of script (s.member (v (codes "g")) (n (codes "mapped"))) ≡ (Some (e.on (e.target (e.copy (e.variable 13))) (e.get (n (codes "mapped")) (a.All (c (codes "F" ∷ []) ∷ [])))))
a_mapped_field_has_the_rights = refl

-- `f.inner.m`
a_field_of_what_is_read_through_a_reference : term_of script (s.member (s.member (v (codes "f")) (n (codes "inner"))) (n (codes "m"))) ≡ (Some (e.on (e.target (e.on (e.target (e.copy (e.variable 12))) (e.get (n (codes "inner")) a.Unauthorized))) (e.get (n (codes "m")) a.Unauthorized)))
a_field_of_what_is_read_through_a_reference = refl

-- `C.fresh().n`
a_receiver_that_is_no_place_is_held : term_of script (s.member (s.call (s.member (v (codes "C")) (n (codes "fresh"))) s.no_annotations s.no_arguments) (n (codes "n"))) ≡ (Some (e.hold 35 (declared (c (codes "S" ∷ []))) (e.on (e.contract (c [])) (e.method (n (codes "fresh")) false false e.no_arguments)) (e.on (e.variable 35) (e.get (n (codes "n")) a.Unauthorized))))
a_receiver_that_is_no_place_is_held = refl

-- `C.fresh().inner.m`
a_field_of_what_is_held : term_of script (s.member (s.member (s.call (s.member (v (codes "C")) (n (codes "fresh"))) s.no_annotations s.no_arguments) (n (codes "inner"))) (n (codes "m"))) ≡ (Some (e.hold 35 (declared (c (codes "S" ∷ []))) (e.on (e.contract (c [])) (e.method (n (codes "fresh")) false false e.no_arguments)) (e.on (e.field (e.variable 35) (declared (c (codes "S" ∷ []))) (n (codes "inner"))) (e.get (n (codes "m")) a.Unauthorized))))
a_field_of_what_is_held = refl

-- `f.any.getType()`
what_is_copied_through_a_reference_is_held : term_of script (s.call (s.member (s.member (v (codes "f")) (n (codes "any"))) (n (codes "getType"))) s.no_annotations s.no_arguments) ≡ (Some (e.hold 35 (basic b.AnyStruct) (e.on (e.target (e.copy (e.variable 12))) (e.get (n (codes "any")) a.Unauthorized)) (e.on (e.variable 35) (e.builtin_call m.GetType [] e.no_arguments))))
what_is_copied_through_a_reference_is_held = refl

-- `os!.n`
a_content_stays_where_it_is : term_of script (s.member (s.force (v (codes "os"))) (n (codes "n"))) ≡ (Some (e.on (e.content (e.variable 9) true) (e.get (n (codes "n")) a.Unauthorized)))
a_content_stays_where_it_is = refl

-- `a[u]`
an_element_under_an_exclamation_mark : term_of script (s.index (v (codes "a")) (v (codes "u"))) ≡ (Some (e.index (e.variable 6) (array (basic (b.Number k.Int))) (e.copy (e.variable 2))))
an_element_under_an_exclamation_mark = refl

-- `os?.n`
a_chain : term_of script (s.optional_member (v (codes "os")) (n (codes "n"))) ≡ (Some (e.chain (e.content (e.variable 9) false) (e.get (n (codes "n")) a.Unauthorized) true))
a_chain = refl

-- `os?.maybe`
a_chain_that_is_not_wrapped : term_of script (s.optional_member (v (codes "os")) (n (codes "maybe"))) ≡ (Some (e.chain (e.content (e.variable 9) false) (e.get (n (codes "maybe")) a.Unauthorized) false))
a_chain_that_is_not_wrapped = refl

-- `or?.child?.n`
a_chain_of_a_chain : term_of script (s.optional_member (s.optional_member (v (codes "or")) (n (codes "child"))) (n (codes "n"))) ≡ (Some (e.chain (e.content (e.field (e.content (e.variable 11) false) (declared (c (codes "R" ∷ []))) (n (codes "child"))) false) (e.get (n (codes "n")) a.Unauthorized) true))
a_chain_of_a_chain = refl

-- `os?.inner?.m`
a_chain_of_a_field : term_of script (s.optional_member (s.optional_member (v (codes "os")) (n (codes "inner"))) (n (codes "m"))) ≡ (Some (e.chain (e.field (e.content (e.variable 9) false) (declared (c (codes "S" ∷ []))) (n (codes "inner"))) (e.get (n (codes "m")) a.Unauthorized) true))
a_chain_of_a_field = refl

-- `of?.n`
a_chain_through_a_reference : term_of script (s.optional_member (v (codes "of")) (n (codes "n"))) ≡ (Some (e.chain (e.content (e.variable 14) false) (e.get (n (codes "n")) a.Unauthorized) true))
a_chain_through_a_reference = refl

-- `&o as &Int`
a_reference_takes_one_optional_off : term_of script (s.borrow (v (codes "o")) (s.reference None (s.named ((n (codes "Int")) ∷ []) s.no_annotations))) ≡ (Some (e.borrow (e.variable 1) a.Unauthorized (basic (b.Number k.Int)) true true))
a_reference_takes_one_optional_off = refl

-- `&o as &(Int?)`
a_reference_takes_none_off : term_of script (s.borrow (v (codes "o")) (s.reference None (s.optional (s.named ((n (codes "Int")) ∷ []) s.no_annotations)))) ≡ (Some (e.borrow (e.variable 1) a.Unauthorized (optional (basic (b.Number k.Int))) false true))
a_reference_takes_none_off = refl

-- `&o as &AnyStruct`
a_reference_takes_one_off_where_both_fit : term_of script (s.borrow (v (codes "o")) (s.reference None (s.named ((n (codes "AnyStruct")) ∷ []) s.no_annotations))) ≡ (Some (e.borrow (e.variable 1) a.Unauthorized (basic b.AnyStruct) true true))
a_reference_takes_one_off_where_both_fit = refl

-- `&f.n as &Int`
a_reference_to_a_temporary : term_of script (s.borrow (s.member (v (codes "f")) (n (codes "n"))) (s.reference None (s.named ((n (codes "Int")) ∷ []) s.no_annotations))) ≡ (Some (e.hold 35 (basic (b.Number k.Int)) (e.on (e.target (e.copy (e.variable 12))) (e.get (n (codes "n")) a.Unauthorized)) (e.borrow (e.variable 35) a.Unauthorized (basic (b.Number k.Int)) false false)))
a_reference_to_a_temporary = refl

-- `r.child == nil`
nil_beside_a_place : term_of script (s.binary bi.Equal (s.member (v (codes "r")) (n (codes "child"))) s.nil) ≡ (Some (e.is_nil (e.field (e.variable 10) (declared (c (codes "R" ∷ []))) (n (codes "child"))) false))
nil_beside_a_place = refl

-- `s.opt() != nil`
nil_beside_a_value : term_of script (s.binary bi.NotEqual (s.call (s.member (v (codes "s")) (n (codes "opt"))) s.no_annotations s.no_arguments) s.nil) ≡ (Some (e.hold 35 (optional (basic (b.Number k.Int))) (e.on (e.variable 8) (e.method (n (codes "opt")) false false e.no_arguments)) (e.is_nil (e.variable 35) true)))
nil_beside_a_value = refl

-- `o ?? x`
a_default_takes_the_content : term_of script (s.binary bi.Coalesce (v (codes "o")) (v (codes "x"))) ≡ (Some (e.coalesce (e.copy (e.variable 1)) (e.copy (e.variable 0)) true (basic (b.Number k.Int))))
a_default_takes_the_content = refl

-- `o ?? o`
a_default_keeps_the_optional : term_of script (s.binary bi.Coalesce (v (codes "o")) (v (codes "o"))) ≡ (Some (e.coalesce (e.copy (e.variable 1)) (e.copy (e.variable 1)) false (optional (basic (b.Number k.Int)))))
a_default_keeps_the_optional = refl

-- `<-r`
a_resource_is_taken : term_of script (s.unary un.Move (v (codes "r"))) ≡ (Some (e.take (e.variable 10)))
a_resource_is_taken = refl

-- `self.sum`
a_field_of_a_transaction_is_a_variable : term_of in_execute (s.member s.self (n (codes "sum"))) ≡ (Some (e.copy (e.variable 1)))
a_field_of_a_transaction_is_a_variable = refl

-- `s.stop()`
a_function_that_never_ends : term_of script (s.call (s.member (v (codes "s")) (n (codes "stop"))) s.no_annotations s.no_arguments) ≡ (Some (e.on (e.variable 8) (e.method (n (codes "stop")) false true e.no_arguments)))
a_function_that_never_ends = refl

-- `s.add(x, to: x, c: x)`
a_view_function : term_of script (s.call (s.member (v (codes "s")) (n (codes "add"))) s.no_annotations (s.arguments None (v (codes "x")) (s.arguments (Some (n (codes "to"))) (v (codes "x")) (s.arguments (Some (n (codes "c"))) (v (codes "x")) s.no_arguments)))) ≡ (Some (e.on (e.variable 8) (e.method (n (codes "add")) true false (e.arguments (e.copy (e.variable 0)) (basic (b.Number k.Int)) (e.arguments (e.copy (e.variable 0)) (basic (b.Number k.Int)) (e.arguments (e.copy (e.variable 0)) (basic (b.Number k.Int)) e.no_arguments))))))
a_view_function = refl

-- `C.fresh().add(C.fresh().n, to: x, c: x)`
arguments_stand_beside_what_is_held : term_of script (s.call (s.member (s.call (s.member (v (codes "C")) (n (codes "fresh"))) s.no_annotations s.no_arguments) (n (codes "add"))) s.no_annotations (s.arguments None (s.member (s.call (s.member (v (codes "C")) (n (codes "fresh"))) s.no_annotations s.no_arguments) (n (codes "n"))) (s.arguments (Some (n (codes "to"))) (v (codes "x")) (s.arguments (Some (n (codes "c"))) (v (codes "x")) s.no_arguments)))) ≡ (Some (e.hold 35 (declared (c (codes "S" ∷ []))) (e.on (e.contract (c [])) (e.method (n (codes "fresh")) false false e.no_arguments)) (e.on (e.variable 35) (e.method (n (codes "add")) true false (e.arguments (e.hold 36 (declared (c (codes "S" ∷ []))) (e.on (e.contract (c [])) (e.method (n (codes "fresh")) false false e.no_arguments)) (e.on (e.variable 36) (e.get (n (codes "n")) a.Unauthorized))) (basic (b.Number k.Int)) (e.arguments (e.copy (e.variable 0)) (basic (b.Number k.Int)) (e.arguments (e.copy (e.variable 0)) (basic (b.Number k.Int)) e.no_arguments)))))))
arguments_stand_beside_what_is_held = refl

-- `acc.storage.save(x, to: sp)`
what_is_saved_is_told_its_type : term_of script (s.call (s.member (s.member (v (codes "acc")) (n (codes "storage"))) (n (codes "save"))) s.no_annotations (s.arguments None (v (codes "x")) (s.arguments (Some (n (codes "to"))) (v (codes "sp")) s.no_arguments))) ≡ (Some (e.on (e.target (e.on (e.target (e.copy (e.variable 23))) (e.builtin_field m.AccountStorage))) (e.builtin_call m.StorageSave ((basic (b.Number k.Int)) ∷ []) (e.arguments (e.copy (e.variable 0)) (basic (b.Number k.Int)) (e.arguments (e.copy (e.variable 29)) (basic b.StoragePath) e.no_arguments)))))
what_is_saved_is_told_its_type = refl

-- `twice(u)`
an_argument_is_transferred_to_its_parameter : term_of script (s.call (v (codes "twice")) s.no_annotations (s.arguments None (v (codes "u")) s.no_arguments)) ≡ (Some (e.call (n (codes "twice")) false false (e.arguments (e.copy (e.variable 2)) (basic (b.Number k.UInt8)) e.no_arguments)))
an_argument_is_transferred_to_its_parameter = refl

-- `[sp, p]`
elements_have_the_common_type : term_of script (s.list (s.exprs (v (codes "sp")) (s.exprs (v (codes "p")) s.no_exprs))) ≡ (Some (e.array (basic b.Path) (e.terms (e.copy (e.variable 29)) (e.terms (e.copy (e.variable 18)) e.no_terms))))
elements_have_the_common_type = refl
