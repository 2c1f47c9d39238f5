-- Structs, resources, interfaces, events and references, beside a small contract.
use Rattle.std.specs.Prelude.{ℕ, Bool, true, false, List, [], ◌∷◌, Option, Some, None, ◌≡◌, refl, codes}
use Rattle.cad_syntax.specs.Types.{PureType, basic, optional, array, dictionary, declared, reference}
use Rattle.cad_syntax.specs.declared.kind.Kind.TheVariants as k
use Rattle.cad_syntax.specs.declared.types.Authorization.TheVariants.{Unauthorized, All}
use Rattle.cad_syntax.specs.declared.types.Basic.TheVariants as b
use Rattle.cad_grammar.specs.declared.expression.BinaryOperator.TheVariants as o
use Rattle.cad_grammar.specs.declared.expression.UnaryOperator.TheVariants as u
use Rattle.cad_grammar.specs.declared.expression.CastKind.TheVariants as c
use Rattle.cad_types.specs.declared.builtin.Builtin.TheVariants as m
use Rattle.cad_num.specs.Numbers as n
use Rattle.cad_declarations.specs.Typed as e
use Rattle.cad_values.specs.Values as v
use Rattle.cad_evaluation.proofs.SampleParts.{num, minus, int, literal, int_type, named, block, variable, Seen, gave, failed_with, without_units, ill_typed, alone}
use Rattle.cad_evaluation.proofs.SampleContract.{c_id, s_id, r_id, i_id, gone_id, told_id, enum_id, right, n_name, list_name, kid_name, add_name, kid_type, run, leaves, left, event}

-- S(5).n: the call, two statements of the initializer, and a unit for its array
struct_made : run int_type (e.return_value 0 (e.hold 0 (declared s_id) (e.construct s_id (e.arguments_of (record { value = (literal 5); target = int_type } ∷ []))) (e.on (e.variable 0) (e.get n_name Unauthorized))) int_type ∷ []) 9 ≡ gave (int 5) 4
unfolding n.outcome
struct_made = refl

-- s.add(2) with the conditions of the struct and of its interface
function_called : run int_type (e.declare 0 (variable 0 (declared s_id)) (e.construct s_id (e.arguments_of (record { value = (literal 5); target = int_type } ∷ []))) ∷ e.return_value 0 (e.on (e.variable 0) (e.method add_name false false (e.arguments_of (record { value = (literal 2); target = int_type } ∷ [])))) int_type ∷ []) 25 ≡ gave (int 7) 6
unfolding n.outcome
function_called = refl

-- own postconditions first, then inherited ones; `before` and `result`
events_in_order : leaves int_type (e.declare 0 (variable 0 (declared s_id)) (e.construct s_id (e.arguments_of (record { value = (literal 5); target = int_type } ∷ []))) ∷ e.return_value 0 (e.on (e.variable 0) (e.method add_name false false (e.arguments_of (record { value = (literal 2); target = int_type } ∷ [])))) int_type ∷ []) 25 ≡ left (event told_id (int 1) ∷ event told_id (int 5) ∷ event told_id (int 7) ∷ []) [] []
unfolding n.outcome
events_in_order = refl

-- s.add(0): an inherited precondition, 108
condition_fails : run int_type (e.declare 0 (variable 0 (declared s_id)) (e.construct s_id (e.arguments_of (record { value = (literal 5); target = int_type } ∷ []))) ∷ e.return_value 0 (e.on (e.variable 0) (e.method add_name false false (e.arguments_of (record { value = (literal 0); target = int_type } ∷ [])))) int_type ∷ []) 25 ≡ failed_with 108
unfolding n.outcome
condition_fails = refl

-- a field with access(self) from outside is ill-typed
private_field : run int_type (e.declare 0 (variable 0 (declared r_id)) (e.create r_id (e.arguments_of (record { value = (literal 1); target = int_type } ∷ record { value = e.nil; target = kid_type } ∷ []))) ∷ e.declare 0 (variable 1 int_type) (e.on (e.variable 0) (e.get n_name Unauthorized)) ∷ e.expression 0 (e.destroy (e.take (e.variable 0))) ∷ e.return_value 0 (e.copy (e.variable 1)) int_type ∷ []) 25 ≡ ill_typed
unfolding n.outcome
private_field = refl

-- a field is written in its type alone
written_outside : run int_type (e.declare 0 (variable 0 (declared s_id)) (e.construct s_id (e.arguments_of (record { value = (literal 5); target = int_type } ∷ []))) ∷ e.assign 0 (e.field (e.variable 0) (declared s_id) n_name) (literal 1) int_type ∷ e.return_value 0 (literal 1) int_type ∷ []) 25 ≡ ill_typed
unfolding n.outcome
written_outside = refl

-- an entitled function through a reference that grants it
right_granted : run int_type (e.declare 0 (variable 0 (declared r_id)) (e.create r_id (e.arguments_of (record { value = (literal 1); target = int_type } ∷ record { value = e.nil; target = kid_type } ∷ []))) ∷ e.declare 0 (variable 1 (reference right (declared r_id))) (e.borrow (e.variable 0) right (declared r_id) false false) ∷ e.declare 0 (variable 2 int_type) (e.on (e.target (e.copy (e.variable 1))) (e.method add_name false false (e.arguments_of (record { value = (literal 2); target = int_type } ∷ [])))) ∷ e.expression 0 (e.destroy (e.take (e.variable 0))) ∷ e.return_value 0 (e.copy (e.variable 2)) int_type ∷ []) 20 ≡ gave (int 3) 5
unfolding n.outcome
right_granted = refl

-- an entitled function through a reference without rights is ill-typed
right_missing : run int_type (e.declare 0 (variable 0 (declared r_id)) (e.create r_id (e.arguments_of (record { value = (literal 1); target = int_type } ∷ record { value = e.nil; target = kid_type } ∷ []))) ∷ e.declare 0 (variable 1 (reference Unauthorized (declared r_id))) (e.borrow (e.variable 0) Unauthorized (declared r_id) false false) ∷ e.declare 0 (variable 2 int_type) (e.on (e.target (e.copy (e.variable 1))) (e.method add_name false false (e.arguments_of (record { value = (literal 2); target = int_type } ∷ [])))) ∷ e.expression 0 (e.destroy (e.take (e.variable 0))) ∷ e.return_value 0 (e.copy (e.variable 2)) int_type ∷ []) 20 ≡ ill_typed
unfolding n.outcome
right_missing = refl

-- a reference to a resource that was moved: 113
moved_away : run int_type (e.declare 0 (variable 0 (declared r_id)) (e.create r_id (e.arguments_of (record { value = (literal 1); target = int_type } ∷ record { value = e.nil; target = kid_type } ∷ []))) ∷ e.declare 0 (variable 1 (reference right (declared r_id))) (e.borrow (e.variable 0) right (declared r_id) false false) ∷ e.declare 0 (variable 2 (declared r_id)) (e.take (e.variable 0)) ∷ e.declare 0 (variable 3 int_type) (e.on (e.target (e.copy (e.variable 1))) (e.method add_name false false (e.arguments_of (record { value = (literal 2); target = int_type } ∷ [])))) ∷ e.expression 0 (e.destroy (e.take (e.variable 2))) ∷ e.return_value 0 (e.copy (e.variable 3)) int_type ∷ []) 30 ≡ failed_with 113
unfolding n.outcome
moved_away = refl

-- destroy: the outer resource first, its event and its identity
destroyed_in_order : leaves int_type (e.declare 0 (variable 0 kid_type) (e.create r_id (e.arguments_of (record { value = (literal 1); target = int_type } ∷ record { value = e.nil; target = kid_type } ∷ []))) ∷ e.declare 0 (variable 1 (declared r_id)) (e.create r_id (e.arguments_of (record { value = (literal 2); target = int_type } ∷ record { value = (e.take (e.variable 0)); target = kid_type } ∷ []))) ∷ e.expression 0 (e.destroy (e.take (e.variable 1))) ∷ e.return_value 0 (literal 0) int_type ∷ []) 40 ≡ left (event gone_id (v.number (num k.UInt64 2)) ∷ event gone_id (v.number (num k.UInt64 1)) ∷ []) (1 ∷ 2 ∷ []) (2 ∷ 1 ∷ [])
unfolding n.outcome
destroyed_in_order = refl

-- a resource that is left in a variable is ill-typed
lost : run int_type (e.declare 0 (variable 0 (declared r_id)) (e.create r_id (e.arguments_of (record { value = (literal 1); target = int_type } ∷ record { value = e.nil; target = kid_type } ∷ []))) ∷ e.return_value 0 (literal 0) int_type ∷ []) 40 ≡ ill_typed
unfolding n.outcome
lost = refl

-- a variable from which a resource was moved is ill-typed
moved_twice : run int_type (e.declare 0 (variable 0 (declared r_id)) (e.create r_id (e.arguments_of (record { value = (literal 1); target = int_type } ∷ record { value = e.nil; target = kid_type } ∷ []))) ∷ e.expression 0 (e.destroy (e.take (e.variable 0))) ∷ e.expression 0 (e.destroy (e.take (e.variable 0))) ∷ e.return_value 0 (literal 0) int_type ∷ []) 40 ≡ ill_typed
unfolding n.outcome
moved_twice = refl

-- a resource isn't copied
copied_resource : run int_type (e.declare 0 (variable 0 (declared r_id)) (e.create r_id (e.arguments_of (record { value = (literal 1); target = int_type } ∷ record { value = e.nil; target = kid_type } ∷ []))) ∷ e.declare 0 (variable 1 (declared r_id)) (e.copy (e.variable 0)) ∷ e.return_value 0 (literal 0) int_type ∷ []) 40 ≡ ill_typed
unfolding n.outcome
copied_resource = refl

-- if let of a nil variable leaves it nil: it may be destroyed
nil_stays_in_variable : run int_type (e.declare 0 (variable 0 kid_type) e.nil ∷ e.if_let 0 (variable 1 (declared r_id)) (e.take (e.variable 0)) kid_type (block 2 (e.expression 0 (e.destroy (e.take (e.variable 1))) ∷ [])) (block 1 (e.expression 0 (e.destroy (e.take (e.variable 0))) ∷ [])) ∷ e.return_value 0 (literal 0) int_type ∷ []) 9 ≡ gave (int 0) 5
unfolding n.outcome
nil_stays_in_variable = refl

-- if let y <- x as? @R, of an AnyResource
cast_of_resource : leaves int_type (e.declare 0 (variable 0 (basic b.AnyResource)) (e.create r_id (e.arguments_of (record { value = (literal 1); target = int_type } ∷ record { value = e.nil; target = kid_type } ∷ []))) ∷ e.if_cast 0 (variable 1 (declared r_id)) (e.variable 0) (declared r_id) (block 2 (e.expression 0 (e.destroy (e.take (e.variable 1))) ∷ [])) (block 1 (e.expression 0 (e.destroy (e.take (e.variable 0))) ∷ [])) ∷ e.return_value 0 (literal 0) int_type ∷ []) 40 ≡ left (event gone_id (v.number (num k.UInt64 1)) ∷ []) (1 ∷ []) (1 ∷ [])
unfolding n.outcome
cast_of_resource = refl

-- a failed cast leaves the resource in its variable
cast_of_resource_fails : leaves int_type (e.declare 0 (variable 0 (basic b.AnyResource)) (e.create r_id (e.arguments_of (record { value = (literal 1); target = int_type } ∷ record { value = e.nil; target = kid_type } ∷ []))) ∷ e.if_cast 0 (variable 1 (array (declared r_id))) (e.variable 0) (array (declared r_id)) (block 2 (e.expression 0 (e.destroy (e.take (e.variable 1))) ∷ [])) (block 1 (e.expression 0 (e.destroy (e.take (e.variable 0))) ∷ [])) ∷ e.return_value 0 (literal 0) int_type ∷ []) 40 ≡ left (event gone_id (v.number (num k.UInt64 1)) ∷ []) (1 ∷ []) (1 ∷ [])
unfolding n.outcome
cast_of_resource_fails = refl

-- {1: <-r, 1: <-q}: 115
repeated_key : run int_type (e.declare 0 (variable 0 (dictionary int_type (declared r_id))) (e.dictionary int_type (declared r_id) (e.entries (literal 1) (e.create r_id (e.arguments_of (record { value = (literal 1); target = int_type } ∷ record { value = e.nil; target = kid_type } ∷ []))) (e.entries (literal 1) (e.create r_id (e.arguments_of (record { value = (literal 2); target = int_type } ∷ record { value = e.nil; target = kid_type } ∷ []))) e.no_entries))) ∷ e.return_value 0 (literal 0) int_type ∷ []) 60 ≡ failed_with 115
unfolding n.outcome
repeated_key = refl

-- a list behind a reference is read as a reference
read_as_reference : run int_type (e.declare 0 (variable 0 (declared s_id)) (e.construct s_id (e.arguments_of (record { value = (literal 5); target = int_type } ∷ []))) ∷ e.declare 0 (variable 1 (reference Unauthorized (declared s_id))) (e.borrow (e.variable 0) Unauthorized (declared s_id) false false) ∷ e.return_value 0 (e.index (e.target (e.on (e.target (e.copy (e.variable 1))) (e.get list_name Unauthorized))) (array int_type) (literal 0)) int_type ∷ []) 25 ≡ gave (int 5) 15
unfolding n.outcome
read_as_reference = refl

-- a?.add(2): the receiver is the content, and the result is wrapped
called_on_content : run (optional int_type) (e.declare 0 (variable 0 (optional (declared s_id))) (e.construct s_id (e.arguments_of (record { value = (literal 5); target = int_type } ∷ []))) ∷ e.return_value 0 (e.chain (e.content (e.variable 0) false) (e.method add_name false false (e.arguments_of (record { value = (literal 2); target = int_type } ∷ []))) true) (optional int_type) ∷ []) 25 ≡ gave (v.some (int 7)) 6
unfolding n.outcome
called_on_content = refl

-- a list is changed in the struct that holds it
owned_list : run int_type (e.declare 0 (variable 0 (declared s_id)) (e.construct s_id (e.arguments_of (record { value = (literal 5); target = int_type } ∷ []))) ∷ e.expression 0 (e.on (e.field (e.variable 0) (declared s_id) list_name) (e.builtin_call m.ArrayAppend [] (e.arguments_of (record { value = (literal 6); target = int_type } ∷ [])))) ∷ e.return_value 0 (e.index (e.field (e.variable 0) (declared s_id) list_name) (array int_type) (literal 1)) int_type ∷ []) 25 ≡ gave (int 6) 14
unfolding n.outcome
owned_list = refl

-- a!.add(2): the content isn't copied
forced_place : run int_type (e.declare 0 (variable 0 (optional (declared s_id))) (e.construct s_id (e.arguments_of (record { value = (literal 5); target = int_type } ∷ []))) ∷ e.expression 0 (e.on (e.content (e.variable 0) true) (e.method add_name false false (e.arguments_of (record { value = (literal 2); target = int_type } ∷ [])))) ∷ e.return_value 0 (e.on (e.content (e.variable 0) true) (e.get n_name Unauthorized)) int_type ∷ []) 25 ≡ gave (int 7) 5
unfolding n.outcome
forced_place = refl

-- a!.n of nil: 106
forced_nil : run int_type (e.declare 0 (variable 0 (optional (declared s_id))) e.nil ∷ e.return_value 0 (e.on (e.content (e.variable 0) true) (e.get n_name Unauthorized)) int_type ∷ []) 25 ≡ failed_with 106
unfolding n.outcome
forced_nil = refl

-- K.b.rawValue
raw_value : run int_type (e.return_value 0 (e.hold 0 (declared enum_id) (e.case enum_id 1) (e.on (e.variable 0) (e.builtin_field m.EnumRawValue))) int_type ∷ []) 9 ≡ gave (int 1) 8
unfolding n.outcome
raw_value = refl

-- K(rawValue: 5) is nil
no_case : run (optional (declared enum_id)) (e.return_value 0 (e.builtin m.EnumFromRawValue (declared enum_id ∷ []) (e.arguments_of (record { value = (literal 5); target = int_type } ∷ []))) (optional (declared enum_id)) ∷ []) 9 ≡ gave v.nil 7
unfolding n.outcome
no_case = refl

-- C.n
contract_field : run int_type (e.return_value 0 (e.on (e.contract c_id) (e.get n_name Unauthorized)) int_type ∷ []) 9 ≡ gave (int 7) 8
unfolding n.outcome
contract_field = refl

-- the owner of a resource in a variable is nil
no_owner : run int_type (e.declare 0 (variable 0 (declared r_id)) (e.create r_id (e.arguments_of (record { value = (literal 1); target = int_type } ∷ record { value = e.nil; target = kid_type } ∷ []))) ∷ e.declare 0 (variable 1 (optional (reference Unauthorized (basic b.Account)))) (e.on (e.variable 0) (e.builtin_field m.ResourceOwner)) ∷ e.expression 0 (e.destroy (e.take (e.variable 0))) ∷ e.return_value 0 (e.conditional (e.is_nil (e.variable 1) false) (literal 1) (literal 0)) int_type ∷ []) 19 ≡ gave (int 1) 8
unfolding n.outcome
no_owner = refl

-- getType through a reference is the node's type
type_of_node : run (basic b.Bool) (e.declare 0 (variable 0 (declared s_id)) (e.construct s_id (e.arguments_of (record { value = (literal 5); target = int_type } ∷ []))) ∷ e.declare 0 (variable 1 (reference Unauthorized (basic b.AnyStruct))) (e.borrow (e.variable 0) Unauthorized (basic b.AnyStruct) false false) ∷ e.return_value 0 (e.on (e.target (e.copy (e.variable 1))) (e.builtin_call m.IsInstance [] (e.arguments_of (record { value = (e.meta (declared s_id)); target = (basic b.Meta) } ∷ [])))) (basic b.Bool) ∷ []) 25 ≡ gave (v.bool true) 13
unfolding n.outcome
type_of_node = refl

-- a reference is cast by its node's type, and its rights
cast_by_node : run int_type (e.declare 0 (variable 0 (declared s_id)) (e.construct s_id (e.arguments_of (record { value = (literal 5); target = int_type } ∷ []))) ∷ e.declare 0 (variable 1 (reference Unauthorized (basic b.AnyStruct))) (e.borrow (e.variable 0) Unauthorized (basic b.AnyStruct) false false) ∷ e.return_value 0 (e.on (e.target (e.cast c.Forced (e.copy (e.variable 1)) (reference Unauthorized (declared s_id)))) (e.get n_name Unauthorized)) int_type ∷ []) 25 ≡ gave (int 5) 15
unfolding n.outcome
cast_by_node = refl

-- a cast to an authorization that the reference lacks: 107
cast_gains_nothing : run int_type (e.declare 0 (variable 0 (declared s_id)) (e.construct s_id (e.arguments_of (record { value = (literal 5); target = int_type } ∷ []))) ∷ e.declare 0 (variable 1 (reference Unauthorized (basic b.AnyStruct))) (e.borrow (e.variable 0) Unauthorized (basic b.AnyStruct) false false) ∷ e.return_value 0 (e.on (e.target (e.cast c.Forced (e.copy (e.variable 1)) (reference right (declared s_id)))) (e.get n_name Unauthorized)) int_type ∷ []) 25 ≡ failed_with 107
unfolding n.outcome
cast_gains_nothing = refl
