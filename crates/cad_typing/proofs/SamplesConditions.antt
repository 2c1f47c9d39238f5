-- Conditions: what stands under `before`, the result, and what isn't moved.
use Rattle.std.specs.Prelude.{ℕ, Bool, true, false, Option, Some, None, List, [], ◌∷◌, codes}
use Rattle.std.specs.Prelude.{◌≡◌, refl}
use Rattle.cad_syntax.specs.Types.{PureType, basic, optional, array, dictionary, intersection, declared, reference, capability, capability_of}
use Rattle.cad_syntax.specs.declared.kind.Kind.TheVariants as k
use Rattle.cad_syntax.specs.declared.types.Basic.TheVariants as b
use Rattle.cad_syntax.specs.declared.types.Authorization.TheVariants as a
use Rattle.cad_types.specs.declared.builtin.Builtin.TheVariants as m
use Rattle.cad_grammar.specs.Trees as s
use Rattle.cad_grammar.specs.declared.type_expr.Entitlements.TheVariants as w
use Rattle.cad_grammar.specs.declared.expression.UnaryOperator.TheVariants as un
use Rattle.cad_grammar.specs.declared.expression.BinaryOperator.TheVariants as bi
use Rattle.cad_grammar.specs.declared.expression.CastKind.TheVariants as ca
use Rattle.cad_declarations.specs.Names.{built_in}
use Rattle.cad_declarations.specs.Typed as e
use Rattle.cad_typing.proofs.SampleProgram.{n, v, an, storage_path, public_path, c, script, in_struct, in_resource, in_init, in_contract, in_contract_init, in_interface, in_prepare, in_execute, after_function, after_interface, type_of, type_moved, type_expected, term_of, target_of, event_of, arrays, deep_script}

-- `result`
a_result : type_of after_function (v (codes "result")) ≡ (Some (basic (b.Number k.Int)))
a_result = refl

-- `result`
no_result : type_of script (v (codes "result")) ≡ None
no_result = refl

-- `before(x)`
a_value_at_entry : type_of after_function (s.call (v (codes "before")) s.no_annotations (s.arguments None (v (codes "x")) s.no_arguments)) ≡ (Some (basic (b.Number k.Int)))
a_value_at_entry = refl

-- `before(self.n)`
a_field_at_entry : type_of after_function (s.call (v (codes "before")) s.no_annotations (s.arguments None (s.member s.self (n (codes "n"))) s.no_arguments)) ≡ (Some (basic (b.Number k.Int)))
a_field_at_entry = refl

-- `before(result)`
no_result_at_entry : type_of after_function (s.call (v (codes "before")) s.no_annotations (s.arguments None (v (codes "result")) s.no_arguments)) ≡ None
no_result_at_entry = refl

-- `before(r)`
no_resource_at_entry : type_of after_function (s.call (v (codes "before")) s.no_annotations (s.arguments None (v (codes "r")) s.no_arguments)) ≡ None
no_resource_at_entry = refl

-- `before(x, x)`
one_value_at_entry : type_of after_function (s.call (v (codes "before")) s.no_annotations (s.arguments None (v (codes "x")) (s.arguments None (v (codes "x")) s.no_arguments))) ≡ None
one_value_at_entry = refl

-- `before(a: x)`
no_label_at_entry : type_of after_function (s.call (v (codes "before")) s.no_annotations (s.arguments (Some (n (codes "a"))) (v (codes "x")) s.no_arguments)) ≡ None
no_label_at_entry = refl

-- `before(x)`
nothing_at_entry_elsewhere : type_of script (s.call (v (codes "before")) s.no_annotations (s.arguments None (v (codes "x")) s.no_arguments)) ≡ None
nothing_at_entry_elsewhere = refl

-- `before(before(x))`
nothing_at_entry_at_entry : type_of after_function (s.call (v (codes "before")) s.no_annotations (s.arguments None (s.call (v (codes "before")) s.no_annotations (s.arguments None (v (codes "x")) s.no_arguments)) s.no_arguments)) ≡ None
nothing_at_entry_at_entry = refl

-- `rr.eat(<-r)`
nothing_is_moved : type_of after_function (s.call (s.member (v (codes "rr")) (n (codes "eat"))) s.no_annotations (s.arguments None (s.unary un.Move (v (codes "r"))) s.no_arguments)) ≡ None
nothing_is_moved = refl

-- `before(rr.eat(<-r))`
nothing_is_moved_at_entry : type_of after_function (s.call (v (codes "before")) s.no_annotations (s.arguments None (s.call (s.member (v (codes "rr")) (n (codes "eat"))) s.no_annotations (s.arguments None (s.unary un.Move (v (codes "r"))) s.no_arguments)) s.no_arguments)) ≡ None
nothing_is_moved_at_entry = refl

-- `r.n`
a_parameter_of_resource_type : type_of after_function (s.member (v (codes "r")) (n (codes "n"))) ≡ (Some (basic (b.Number k.Int)))
a_parameter_of_resource_type = refl

-- `r.n`
a_parameter_of_resource_type_in_an_interface : type_of after_interface (s.member (v (codes "r")) (n (codes "n"))) ≡ None
a_parameter_of_resource_type_in_an_interface = refl

-- `before(r.n)`
a_parameter_of_resource_type_at_entry : type_of after_interface (s.call (v (codes "before")) s.no_annotations (s.arguments None (s.member (v (codes "r")) (n (codes "n"))) s.no_arguments)) ≡ (Some (basic (b.Number k.Int)))
a_parameter_of_resource_type_at_entry = refl

-- `before(x) + before(o!)`
numbers_of_values_at_entry : term_of after_function (s.binary bi.Add (s.call (v (codes "before")) s.no_annotations (s.arguments None (v (codes "x")) s.no_arguments)) (s.call (v (codes "before")) s.no_annotations (s.arguments None (s.force (v (codes "o"))) s.no_arguments))) ≡ (Some (e.binary bi.Add (e.before 0) (e.before 1)))
numbers_of_values_at_entry = refl
