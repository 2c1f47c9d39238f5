-- Places that change, bounds, and fields that aren't set.
use Rattle.std.specs.Prelude.{◌^◌, ◌-◌, ℕ, Bool, true, false, List, [], ◌∷◌, Option, Some, None, ◌≡◌, refl, codes}
use Rattle.cad_syntax.specs.Types.{PureType, basic, optional, array, dictionary, declared, reference}
use Rattle.cad_syntax.specs.declared.kind.Kind.TheVariants as k
use Rattle.cad_syntax.specs.declared.types.Authorization.{Authorization}
use Rattle.cad_syntax.specs.declared.types.Authorization.TheVariants.{Unauthorized, All}
use Rattle.cad_syntax.specs.declared.types.Basic.TheVariants as b
use Rattle.cad_grammar.specs.declared.expression.BinaryOperator.TheVariants as o
use Rattle.cad_grammar.specs.declared.expression.UnaryOperator.TheVariants as u
use Rattle.cad_grammar.specs.declared.expression.CastKind.TheVariants as c
use Rattle.cad_types.specs.declared.builtin.Builtin.TheVariants as m
use Rattle.cad_num.specs.Numbers as n
use Rattle.cad_declarations.specs.Names.{built_in}
use Rattle.cad_declarations.specs.Typed as e
use Rattle.cad_values.specs.Values as v
use Rattle.cad_evaluation.proofs.SampleParts.{num, minus, int, literal, int_type, named, block, variable, Seen, gave, failed_with, without_units, ill_typed, alone}
use Rattle.cad_evaluation.proofs.SampleContract.{c_id, s_id, r_id, i_id, gone_id, told_id, enum_id, right, n_name, list_name, kid_name, add_name, kid_type, twice_name, replace_name, fill_name, run, runs_from, with_depth, with_identity, with_unset, leaves, left, event}

abbrev pub mutate : Authorization
mutate = All (built_in (codes "Mutate") ∷ [])

-- a function that the struct doesn't write: the default of its second interface
default_called : run int_type (e.declare 0 (variable 0 (declared s_id)) (e.construct s_id (e.arguments_of (record { value = (literal 5); target = int_type } ∷ []))) ∷ e.return_value 0 (e.on (e.variable 0) (e.method twice_name false false (e.arguments_of ([])))) int_type ∷ []) 15 ≡ gave (int 10) 4
unfolding n.outcome
default_called = refl

-- let old <- self.kid <- k: the old content is moved out, and its events come with the rest
exchanged : leaves int_type (e.declare 0 (variable 0 (declared r_id)) (e.create r_id (e.arguments_of (record { value = (literal 1); target = int_type } ∷ record { value = (e.create r_id (e.arguments_of (record { value = (literal 2); target = int_type } ∷ record { value = e.nil; target = kid_type } ∷ []))); target = kid_type } ∷ []))) ∷ e.declare 0 (variable 1 kid_type) (e.on (e.variable 0) (e.method replace_name false false (e.arguments_of (record { value = e.nil; target = kid_type } ∷ [])))) ∷ e.expression 0 (e.destroy (e.take (e.variable 1))) ∷ e.expression 0 (e.destroy (e.take (e.variable 0))) ∷ e.return_value 0 (literal 0) int_type ∷ []) 60 ≡ left (event gone_id (v.number (num k.UInt64 1)) ∷ event gone_id (v.number (num k.UInt64 2)) ∷ []) (1 ∷ 2 ∷ []) (1 ∷ 2 ∷ [])
unfolding n.outcome
exchanged = refl

-- self.kid <-! k where kid is nil
filled : leaves int_type (e.declare 0 (variable 0 (declared r_id)) (e.create r_id (e.arguments_of (record { value = (literal 1); target = int_type } ∷ record { value = e.nil; target = kid_type } ∷ []))) ∷ e.expression 0 (e.on (e.variable 0) (e.method fill_name false false (e.arguments_of (record { value = (e.create r_id (e.arguments_of (record { value = (literal 2); target = int_type } ∷ record { value = e.nil; target = kid_type } ∷ []))); target = kid_type } ∷ [])))) ∷ e.expression 0 (e.destroy (e.take (e.variable 0))) ∷ e.return_value 0 (literal 0) int_type ∷ []) 60 ≡ left (event gone_id (v.number (num k.UInt64 1)) ∷ event gone_id (v.number (num k.UInt64 2)) ∷ []) (1 ∷ 2 ∷ []) (1 ∷ 2 ∷ [])
unfolding n.outcome
filled = refl

-- self.kid <-! k where kid isn't nil: 115
occupied : run int_type (e.declare 0 (variable 0 (declared r_id)) (e.create r_id (e.arguments_of (record { value = (literal 1); target = int_type } ∷ record { value = (e.create r_id (e.arguments_of (record { value = (literal 2); target = int_type } ∷ record { value = e.nil; target = kid_type } ∷ []))); target = kid_type } ∷ []))) ∷ e.expression 0 (e.on (e.variable 0) (e.method fill_name false false (e.arguments_of (record { value = (e.create r_id (e.arguments_of (record { value = (literal 3); target = int_type } ∷ record { value = e.nil; target = kid_type } ∷ []))); target = kid_type } ∷ [])))) ∷ e.expression 0 (e.destroy (e.take (e.variable 0))) ∷ e.return_value 0 (literal 0) int_type ∷ []) 60 ≡ failed_with 115
unfolding n.outcome
occupied = refl

-- r[0] <-> outer[0] where r names outer[0]: 113
swapped_with_its_holder : run int_type (e.declare 0 (variable 0 (array (array (basic b.AnyStruct)))) (e.array (array (basic b.AnyStruct)) (e.terms_of ((e.array (basic b.AnyStruct) (e.terms_of ((literal 1) ∷ []))) ∷ []))) ∷ e.declare 0 (variable 1 (reference mutate (array (basic b.AnyStruct)))) (e.borrow (e.element (e.variable 0) (array (array (basic b.AnyStruct))) (literal 0)) mutate (array (basic b.AnyStruct)) false false) ∷ e.swap 0 (e.element (e.target (e.copy (e.variable 1))) (array (basic b.AnyStruct)) (literal 0)) (basic b.AnyStruct) (e.element (e.variable 0) (array (array (basic b.AnyStruct))) (literal 0)) (array (basic b.AnyStruct)) ∷ e.return_value 0 (literal 0) int_type ∷ []) 60 ≡ failed_with 113
unfolding n.outcome
swapped_with_its_holder = refl

-- elements are replaced through a reference that may, alone
swapped_through_weak_reference : run int_type (e.declare 0 (variable 0 (array int_type)) (e.array int_type (e.terms_of ((literal 1) ∷ (literal 2) ∷ []))) ∷ e.declare 0 (variable 1 (reference Unauthorized (array int_type))) (e.borrow (e.variable 0) Unauthorized (array int_type) false false) ∷ e.swap 0 (e.element (e.target (e.copy (e.variable 1))) (array int_type) (literal 0)) int_type (e.element (e.target (e.copy (e.variable 1))) (array int_type) (literal 1)) int_type ∷ e.return_value 0 (literal 0) int_type ∷ []) 60 ≡ ill_typed
unfolding n.outcome
swapped_through_weak_reference = refl

-- a[0] <-> a[1]
swapped_elements : run int_type (e.declare 0 (variable 0 (array int_type)) (e.array int_type (e.terms_of ((literal 1) ∷ (literal 2) ∷ []))) ∷ e.swap 0 (e.element (e.variable 0) (array int_type) (literal 0)) int_type (e.element (e.variable 0) (array int_type) (literal 1)) int_type ∷ e.return_value 0 (e.index (e.variable 0) (array int_type) (literal 0)) int_type ∷ []) 9 ≡ gave (int 2) 4
unfolding n.outcome
swapped_elements = refl

-- a[0] <-> a[0]: the node stays, and a reference to it
swapped_with_itself : run int_type (e.declare 0 (variable 0 (array int_type)) (e.array int_type (e.terms_of ((literal 1) ∷ []))) ∷ e.declare 0 (variable 1 (reference Unauthorized int_type)) (e.borrow (e.element (e.variable 0) (array int_type) (literal 0)) Unauthorized int_type false false) ∷ e.swap 0 (e.element (e.variable 0) (array int_type) (literal 0)) int_type (e.element (e.variable 0) (array int_type) (literal 0)) int_type ∷ e.return_value 0 (e.unary u.Dereference (e.copy (e.variable 1))) int_type ∷ []) 9 ≡ gave (int 1) 4
unfolding n.outcome
swapped_with_itself = refl

-- a[0] <-> a[1] of one element: 104
swapped_missing : run int_type (e.declare 0 (variable 0 (array int_type)) (e.array int_type (e.terms_of ((literal 1) ∷ []))) ∷ e.swap 0 (e.element (e.variable 0) (array int_type) (literal 0)) int_type (e.element (e.variable 0) (array int_type) (literal 1)) int_type ∷ e.return_value 0 (literal 0) int_type ∷ []) 9 ≡ failed_with 104
unfolding n.outcome
swapped_missing = refl

-- d[1] <-> d[2] where 2 isn't there: the key moves
swapped_keys : run (array int_type) (e.declare 0 (variable 0 (dictionary int_type int_type)) (e.dictionary int_type int_type (e.entries (literal 1) (literal 10) e.no_entries)) ∷ e.swap 0 (e.element (e.variable 0) (dictionary int_type int_type) (literal 1)) (optional int_type) (e.element (e.variable 0) (dictionary int_type int_type) (literal 2)) (optional int_type) ∷ e.return_value 0 (e.on (e.variable 0) (e.builtin_field m.DictionaryKeys)) (array int_type) ∷ []) 9 ≡ gave (v.array int_type (v.values_of (int 2 ∷ []))) 2
unfolding n.outcome
swapped_keys = refl

-- a call beside 1,999 others in progress goes, beside 2,000 it is 124
too_deep : runs_from (with_depth 2000) int_type (e.return_value 0 (literal 1) int_type ∷ []) 9 ≡ failed_with 124
unfolding n.outcome
too_deep = refl

-- the 2,000th call in progress
deep_enough : runs_from (with_depth 1999) int_type (e.return_value 0 (literal 1) int_type ∷ []) 9 ≡ gave (int 1) 8
unfolding n.outcome
deep_enough = refl

-- create where the next identity is 2^64-1: 128
identities_spent : runs_from (with_identity (2 ^ 64 - 1)) int_type (e.declare 0 (variable 0 (declared r_id)) (e.create r_id (e.arguments_of (record { value = (literal 1); target = int_type } ∷ record { value = e.nil; target = kid_type } ∷ []))) ∷ e.return_value 0 (literal 1) int_type ∷ []) 9 ≡ failed_with 128
unfolding n.outcome
identities_spent = refl

-- an event with a Type in it: 134, after its units
not_told : run int_type (e.emit 0 told_id (e.arguments_of (record { value = (e.meta int_type); target = int_type } ∷ [])) ∷ e.return_value 0 (literal 1) int_type ∷ []) 9 ≡ failed_with 134
unfolding n.outcome
not_told = refl

-- emit is a statement and a call
not_told_without_unit : run int_type (e.emit 0 told_id (e.arguments_of (record { value = (e.meta int_type); target = int_type } ∷ [])) ∷ e.return_value 0 (literal 1) int_type ∷ []) 1 ≡ without_units
unfolding n.outcome
not_told_without_unit = refl

-- a field of a contract whose initializer runs is read before it was set: 132
unset_field : runs_from with_unset int_type (e.return_value 0 (e.on (e.contract c_id) (e.get n_name Unauthorized)) int_type ∷ []) 9 ≡ failed_with 132
unfolding n.outcome
unset_field = refl
