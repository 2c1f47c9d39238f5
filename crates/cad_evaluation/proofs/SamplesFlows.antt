-- Statements, conditions and calls.
use Rattle.std.specs.Prelude.{ℕ, ◌^◌, ◌-◌, true, false, List, [], ◌∷◌, Some, None, ◌≡◌, refl, codes}
use Rattle.cad_syntax.specs.Types.{optional, declared}
use Rattle.cad_syntax.specs.declared.kind.Kind.TheVariants as k
use Rattle.cad_syntax.specs.declared.types.Authorization.TheVariants.{Unauthorized}
use Rattle.cad_grammar.specs.declared.expression.BinaryOperator.TheVariants as o
use Rattle.cad_grammar.specs.declared.expression.CastKind.TheVariants as c
use Rattle.cad_types.specs.declared.builtin.Builtin.TheVariants as m
use Rattle.cad_num.specs.Numbers as n
use Rattle.cad_declarations.specs.Typed as e
use Rattle.cad_values.specs.Values as v
use Rattle.cad_evaluation.proofs.SampleParts.{int, literal, int_type, named, block, variable, Seen, seen, gave, failed_with, without_units, alone}
use Rattle.cad_evaluation.proofs.SampleForms.{text_type, void_type, any_type, ints, link, r_type, of_int, text, copy, take, giving, list, reads, of_type, fails, new_r, declares, does, returns, gives, gives_beside}
use Rattle.cad_syntax.specs.declared.text.Name.{Name}
use Rattle.cad_evaluation.proofs.SampleParts.{body, main, script, state, runs, function_named}
use Rattle.cad_evaluation.proofs.SampleContract.{c_id, i_id, b_id, n_name, mark_name, contract, runs_from, with_depth, with_identity, with_unset}

abbrev f_name : Name
f_name = named (codes "f")

-- fun f(): Int { pre { .. } return 1 }, which main calls
abbrev calls_with : List e.ConditionBody → Seen
calls_with pre = seen (runs (state [] [] (script (function_named main (body [] int_type (returns int_type (e.call f_name false false e.no_arguments) ∷ []))
    ∷ function_named f_name (record (body [] int_type (returns int_type (literal 1) ∷ [])) { pre = pre }) ∷ [])) 30))

-- fun f(): @R { post { result.uuid == n } return <-create R(1, nil) }, whose result main destroys
abbrev result_seen : ℕ → Seen
result_seen n = seen (runs (state [] (contract ∷ []) (script (function_named main (body [] int_type (does (e.destroy (e.call f_name false false e.no_arguments)) ∷ returns int_type (literal 0) ∷ []))
    ∷ function_named f_name (record (body [] r_type (returns r_type (new_r 1 e.nil) ∷ [])) {
      result_variable = Some (variable 0 (link r_type));
      post = e.test 0 (e.binary o.Equal (reads (e.target (copy 0)) m.ResourceUuid) (of_int k.UInt64 n)) None ∷ [];
    }) ∷ [])) 60))

-- else
otherwise : gives int_type (e.if_else 0 (e.bool false) (block 0 (returns int_type (literal 1) ∷ [])) (block 0 (returns int_type (literal 2) ∷ [])) ∷ []) (literal 0) ≡ gave (int 2) 28
unfolding n.outcome
otherwise = refl

-- for i, x in [5, 6] { s = s + i }: the index is an Int
indexed : gives int_type (declares 0 int_type (literal 0) ∷ e.for_loop 0 (Some (variable 1 int_type)) (variable 2 int_type) (list (literal 5 ∷ literal 6 ∷ [])) ints (block 3 (e.assign 0 (e.variable 0) (e.binary o.Add (copy 0) (copy 1)) int_type ∷ [])) ∷ []) (copy 0) ≡ gave (int 1) 21
unfolding n.outcome
indexed = refl

-- for x in [5, 6] { if x == 5 { continue }; return x }
continued : gives int_type (e.for_loop 0 None (variable 0 int_type) (list (literal 5 ∷ literal 6 ∷ [])) ints (block 1 (e.if_else 0 (e.binary o.Equal (copy 0) (literal 5)) (block 1 (e.continue_loop 0 ∷ [])) (block 1 []) ∷ returns int_type (copy 0) ∷ [])) ∷ []) (literal 0) ≡ gave (int 6) 21
unfolding n.outcome
continued = refl

-- while true { return 3 }
returned : gives int_type (e.while_loop 0 (e.bool true) (block 0 (returns int_type (literal 3) ∷ [])) ∷ []) (literal 0) ≡ gave (int 3) 27
unfolding n.outcome
returned = refl

-- a failing test takes no turn: while 1 / 0 == 1 without a unit for a turn is 103
test_before_unit : alone int_type (e.while_loop 0 (e.binary o.Equal fails (literal 1)) (block 0 []) ∷ []) 1 ≡ failed_with 103
unfolding n.outcome
test_before_unit = refl

-- and a turn without a unit is Limit
turn_without_unit : alone int_type (e.while_loop 0 (e.bool true) (block 0 []) ∷ []) 1 ≡ without_units
unfolding n.outcome
turn_without_unit = refl

-- switch 3 { case 1: ..; default: return 9 }
default : gives int_type (e.switch 0 (literal 3) (e.cases_of (record { value = literal 1; body = block 0 (returns int_type (literal 1) ∷ []) } ∷ [])) (block 0 (returns int_type (literal 9) ∷ [])) ∷ []) (literal 0) ≡ gave (int 9) 28
unfolding n.outcome
default = refl

-- break leaves the switch and not the loop around it
break_of_switch : gives int_type (e.for_loop 0 None (variable 0 int_type) (list (literal 5 ∷ [])) ints (block 1 (e.switch 0 (copy 0) e.no_cases (block 1 (e.break_loop 0 ∷ [])) ∷ returns int_type (literal 4) ∷ [])) ∷ []) (literal 0) ≡ gave (int 4) 24
unfolding n.outcome
break_of_switch = refl

-- switch of nil: beside the literal no unit is taken
switch_of_nil : gives int_type (declares 0 (optional ints) (list (literal 1 ∷ [])) ∷ e.switch 0 (copy 0) (e.cases_of (record { value = e.nil; body = block 1 (returns int_type (literal 1) ∷ []) } ∷ [])) (block 1 (returns int_type (literal 2) ∷ [])) ∷ []) (literal 0) ≡ gave (int 2) 26
unfolding n.outcome
switch_of_nil = refl

-- a case that is compared takes the units of both
case_units : gives int_type (e.switch 0 (list (literal 1 ∷ [])) (e.cases_of (record { value = list (literal 2 ∷ []); body = block 0 [] } ∷ [])) (block 0 (returns int_type (literal 2) ∷ [])) ∷ []) (literal 0) ≡ gave (int 2) 26
unfolding n.outcome
case_units = refl

-- return without a value, of a function without a result
returned_nothing : alone void_type (e.return_nothing 0 ∷ []) 30 ≡ gave (v.void) 29
unfolding n.outcome
returned_nothing = refl

-- the else branch of `if let` on nil
let_of_nil : gives int_type (declares 0 (optional int_type) e.nil ∷ e.if_let 0 (variable 1 int_type) (copy 0) (optional int_type) (block 2 []) (block 1 (returns int_type (literal 2) ∷ [])) ∷ []) (literal 0) ≡ gave (int 2) 27
unfolding n.outcome
let_of_nil = refl

-- if let of a cast takes the parts twice: for the cast, and for the transfer
let_of_cast : gives int_type (declares 0 any_type (list (literal 1 ∷ literal 2 ∷ [])) ∷ e.if_let 0 (variable 1 ints) (e.cast c.Failable (copy 0) ints) (optional ints) (block 2 (returns int_type (literal 2) ∷ [])) (block 1 []) ∷ []) (literal 0) ≡ gave (int 2) 21
unfolding n.outcome
let_of_cast = refl

-- as! of what is of the type
cast_holds : gives int_type (declares 0 any_type (literal 5) ∷ []) (e.cast c.Forced (copy 0) int_type) ≡ gave (int 5) 28
unfolding n.outcome
cast_holds = refl

-- an Int isn't an Int?: 107
cast_to_optional_fails : gives (optional int_type) (declares 0 any_type (literal 5) ∷ []) (e.cast c.Forced (copy 0) (optional int_type)) ≡ failed_with 107
unfolding n.outcome
cast_to_optional_fails = refl

-- let old <- x <- e
second_value : gives int_type (declares 0 int_type (literal 5) ∷ e.exchange 0 (variable 1 int_type) (e.variable 0) int_type (literal 6) ∷ []) (e.binary o.Subtract (copy 0) (copy 1)) ≡ gave (int 1) 27
unfolding n.outcome
second_value = refl

-- ---- calls

-- a message is evaluated where the test fails: a panic in it is 109
message_panics : calls_with (e.test 0 (e.bool false) (Some (of_type m.Panic (giving (text (codes "x")) text_type ∷ []))) ∷ []) ≡ failed_with 109
unfolding n.outcome
message_panics = refl

-- else 108
test_fails : calls_with (e.test 0 (e.bool false) (Some (text (codes "x"))) ∷ []) ≡ failed_with 108
unfolding n.outcome
test_fails = refl

-- and not where it holds
no_message : calls_with (e.test 0 (e.bool true) (Some fails) ∷ []) ≡ gave (int 1) 26
unfolding n.outcome
no_message = refl

-- `result` of a resource is a reference to it
result_is_referred_to : result_seen 1 ≡ gave (int 0) 48
unfolding n.outcome
result_is_referred_to = refl

result_condition_fails : result_seen 2 ≡ failed_with 108
unfolding n.outcome
result_condition_fails = refl

-- beside 1,999 calls `create` and its initializer are too many: 124
too_deep : runs_from (with_depth 1999) int_type (does (e.destroy (new_r 1 e.nil)) ∷ returns int_type (literal 1) ∷ []) 60 ≡ failed_with 124
unfolding n.outcome
too_deep = refl

-- after the identity was drawn: 128
identity_before_depth : runs_from (λ s. with_depth 1999 (with_identity (2 ^ 64 - 1) s)) int_type (does (e.destroy (new_r 1 e.nil)) ∷ returns int_type (literal 1) ∷ []) 60 ≡ failed_with 128
unfolding n.outcome
identity_before_depth = refl

-- what has no initializer is made at any depth
no_initializer : runs_from (with_depth 1999) int_type (does (e.construct i_id e.no_arguments) ∷ returns int_type (literal 1) ∷ []) 60 ≡ gave (int 1) 57
unfolding n.outcome
no_initializer = refl

-- destroy takes the parts of the resource, and no unit for its event
end_units : gives_beside int_type (declares 0 r_type (new_r 1 e.nil) ∷ does (e.destroy (take 0)) ∷ []) (literal 0) ≡ gave (int 0) 50
unfolding n.outcome
end_units = refl

-- a?.n of an AnyStruct that is an optional: wrapped, as the type of .n is none
wrapped_by_type : gives_beside (optional any_type) (declares 0 (optional int_type) (literal 1) ∷ declares 1 (optional (declared b_id)) (e.construct b_id (e.arguments_of (giving (copy 0) any_type ∷ []))) ∷ []) (e.chain (e.content (e.variable 1) false) (e.get n_name Unauthorized) true) ≡ gave (v.some (v.some (int 1))) 54
unfolding n.outcome
wrapped_by_type = refl

-- an assignment sets a field of a contract whose initializer runs, also by other code
set_by_other : runs_from with_unset int_type (declares 0 r_type (new_r 1 e.nil) ∷ does (e.on (e.variable 0) (e.method mark_name false false e.no_arguments)) ∷ does (e.destroy (take 0)) ∷ returns int_type (e.on (e.contract c_id) (e.get n_name Unauthorized)) ∷ []) 60 ≡ gave (int 3) 47
unfolding n.outcome
set_by_other = refl
