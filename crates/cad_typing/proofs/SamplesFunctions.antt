-- Functions, initializers and conditions: their numbers, and where they are ill-typed.
use Rattle.std.specs.Prelude.{◌≡◌, refl, ℕ, true, false, Option, Some, None, Result, Ok, Err, List, [], ◌∷◌, codes}
use Rattle.cad_grammar.specs.Trees as s
use Rattle.cad_grammar.specs.declared.expression.BinaryOperator.TheVariants as binary
use Rattle.cad_grammar.specs.declared.declaration.Access.TheVariants as access
use Rattle.cad_grammar.specs.declared.declaration.CompositeKind.TheVariants as kind
use Rattle.cad_grammar.specs.declared.statement.Transfer.TheVariants as sign
use Rattle.cad_declarations.specs.Build.{stop_at}
use Rattle.cad_declarations.specs.Points.{word}
use Rattle.cad_declarations.specs.declared.stop.Stop.{Stop}
use Rattle.cad_typing.proofs.SampleParts.{a, b, f, C, R, S, type, of, at, int, resource, some_resource, one, use_of, called, called_with, of_self, move, destroyed, made, let_is, let_of, set, returned, if_true, parameter, statements, conditions, function, initializer, field, composite, resource_composite, ill, ill_contract, in_script, in_contract}

-- ---- heads

-- of a function f outside a contract
abbrev ill_function : List s.ParameterTree → Option s.Annotation → Option s.FunctionBlockTree → Option Stop
ill_function parameters result block = ill None (s.top_function (function f parameters result block) ∷ [])

-- a parameter's type is right, with `@` before resources alone
unmarked : ill_contract (s.composite (resource_composite R []) ∷ s.contract_function (function f (parameter a (of (type (codes "R"))) ∷ []) None (statements [])) ∷ []) ≡ in_contract 0
unmarked = refl

marked : ill_function (parameter a (at (type (codes "Int"))) ∷ []) None (statements []) ≡ in_script 0
marked = refl

key_type : ill_function [] (Some (of (s.dictionary (type (codes "AnyStruct")) (type (codes "Int"))))) (statements []) ≡ in_script 0
key_type = refl

-- two parameters have two names; the body may declare one again
parameters_of_one_name : ill_function (parameter a int ∷ parameter a int ∷ []) None (statements []) ≡ in_script 0
parameters_of_one_name = refl

parameter_again : ill_function (parameter a int ∷ []) None (statements (let_is a (s.bool true) ∷ [])) ≡ None
parameter_again = refl

parameter_assigned : ill_function (parameter a int ∷ []) None (statements (set (use_of a) one ∷ [])) ≡ in_script 0
parameter_assigned = refl

-- what is returned fits the result, as an optional too
wrapped : ill_function [] (Some (of (s.optional (type (codes "Int"))))) (statements (returned one ∷ [])) ≡ None
wrapped = refl

nothing_returned : ill_function [] (Some int) (statements (s.return_value None ∷ [])) ≡ in_script 0
nothing_returned = refl

-- ---- conditions

abbrev check : s.ExprTree → s.ConditionTree
check x = s.test x None

abbrev at_entry : s.ExprTree → s.ExprTree
at_entry x = called_with (use_of (word (codes "before"))) x

abbrev result : s.ExprTree
result = use_of (word (codes "result"))

abbrev same : s.ExprTree → s.ExprTree → s.ExprTree
same x y = s.binary binary.Equal x y

-- preconditions come before postconditions, and both before statements
numbers : ill_function [] None (conditions (check (s.bool true) ∷ []) (check (s.bool true) ∷ []) (let_is b (use_of a) ∷ [])) ≡ in_script 2
numbers = refl

no_test : ill_function [] None (conditions (check (s.bool true) ∷ []) (check one ∷ []) []) ≡ in_script 1
no_test = refl

-- a message is a String
number_as_message : ill_function [] None (conditions (s.test (s.bool true) (Some one) ∷ []) [] []) ≡ in_script 0
number_as_message = refl

-- the result is in scope in postconditions alone, and where there is one
result_after : ill_function [] (Some int) (conditions [] (check (same result one) ∷ []) (returned one ∷ [])) ≡ None
result_after = refl

result_before : ill_function [] (Some int) (conditions (check (same result one) ∷ []) [] (returned one ∷ [])) ≡ in_script 0
result_before = refl

no_result : ill_function [] None (conditions [] (check (same result one) ∷ []) []) ≡ in_script 0
no_result = refl

-- a parameter of that name stands in an outer scope
result_hides : ill_function (parameter (word (codes "result")) (of (type (codes "Bool"))) ∷ []) (Some int) (conditions [] (check (same result one) ∷ []) (returned one ∷ [])) ≡ None
result_hides = refl

-- of a resource the result is a reference
result_of_resource : ill_contract (s.composite (resource_composite R (s.field (field a int) ∷ initializer (set (of_self a) one ∷ []) ∷ []))
    ∷ s.contract_function (function f [] (Some resource) (conditions [] (check (same (s.member result a) one) ∷ []) (returned (move made) ∷ []))) ∷ []) ≡ None
result_of_resource = refl

result_moved : ill_contract (s.composite (resource_composite R [])
    ∷ s.contract_function (function f [] (Some resource) (conditions [] (check (same (move result) one) ∷ []) (returned (move made) ∷ []))) ∷ []) ≡ in_contract 0
result_moved = refl

-- `before` stands in postconditions, not around the result and not in another `before`
before_after : ill_function (parameter a int ∷ []) None (conditions [] (check (same (at_entry (use_of a)) one) ∷ []) []) ≡ None
before_after = refl

before_before : ill_function (parameter a int ∷ []) None (conditions (check (same (at_entry (use_of a)) one) ∷ []) [] []) ≡ in_script 0
before_before = refl

before_result : ill_function [] (Some int) (conditions [] (check (same (at_entry result) one) ∷ []) (returned one ∷ [])) ≡ in_script 0
before_result = refl

before_twice : ill_function (parameter a int ∷ []) None (conditions [] (check (same (at_entry (at_entry (use_of a))) one) ∷ []) []) ≡ in_script 0
before_twice = refl

-- no resource variable is moved in a condition
moved_in_condition : ill_contract (s.composite (resource_composite R [])
    ∷ s.contract_function (function b (parameter a resource ∷ []) (Some (of (type (codes "Bool")))) (statements (destroyed a ∷ returned (s.bool true) ∷ [])))
    ∷ s.contract_function (function f (parameter a resource ∷ []) None (conditions (check (called_with (of_self b) (move (use_of a))) ∷ []) [] (destroyed a ∷ []))) ∷ []) ≡ in_contract 0
moved_in_condition = refl

-- ---- events

abbrev event : List s.EventParameterTree → s.EventTree
event parameters = record { access = Some access.All; name = b; parameters = parameters }

abbrev event_field : s.Annotation → s.EventParameterTree
event_field t = record { parameter = record { label = None; name = a; annotation = t }; default_value = None }

abbrev event_call : s.ExprTree
event_call = s.call (use_of b) s.no_annotations (s.arguments (Some a) one s.no_arguments)

-- an event is called under `emit`, and there alone
emitted : ill_contract (s.contract_event (event (event_field int ∷ [])) ∷ s.contract_function (function f [] None (statements (s.emit event_call ∷ []))) ∷ []) ≡ None
emitted = refl

event_as_value : ill_contract (s.contract_event (event (event_field int ∷ [])) ∷ s.contract_function (function f [] None (statements (s.expression event_call ∷ []))) ∷ []) ≡ in_contract 0
event_as_value = refl

emitted_number : ill_contract (s.contract_function (function f [] None (statements (s.emit one ∷ []))) ∷ []) ≡ in_contract 0
emitted_number = refl

-- its fields are exportable, no resources, and have two names
event_of_reference : ill_contract (s.contract_event (event (event_field (of (s.reference None (type (codes "Int")))) ∷ [])) ∷ []) ≡ Some (stop_at (C ∷ b ∷ []) 0)
event_of_reference = refl

event_of_resource : ill_contract (s.contract_event (event (event_field resource ∷ [])) ∷ s.composite (resource_composite R []) ∷ []) ≡ Some (stop_at (C ∷ b ∷ []) 0)
event_of_resource = refl

event_of_one_name : ill_contract (s.contract_event (event (event_field int ∷ event_field int ∷ [])) ∷ []) ≡ Some (stop_at (C ∷ b ∷ []) 0)
event_of_one_name = refl

-- ---- initializers

abbrev in_init : ℕ → Option Stop
in_init n = Some (stop_at (C ∷ S ∷ word (codes "init") ∷ []) n)

-- a field of `self` is assigned there, a resource field by `<-`
field_set : ill_contract (s.composite (resource_composite R []) ∷ s.composite (resource_composite S (s.field (field a resource) ∷ initializer (s.assignment (of_self a) sign.Move made ∷ []) ∷ [])) ∷ []) ≡ None
field_set = refl

field_of_another_type : ill_contract (s.composite (composite S (s.field (field a int) ∷ initializer (set (of_self a) (s.bool true) ∷ []) ∷ [])) ∷ []) ≡ in_init 0
field_of_another_type = refl

value_returned : ill_contract (s.composite (composite S (initializer (returned one ∷ []) ∷ [])) ∷ []) ≡ in_init 0
value_returned = refl
