-- Statements that are typed, and the first that isn't.
use Rattle.std.specs.Prelude.{◌≡◌, refl, ℕ, true, false, Option, Some, None, List, [], ◌∷◌, codes}
use Rattle.cad_grammar.specs.Trees as s
use Rattle.cad_grammar.specs.declared.expression.CastKind.TheVariants as cast
use Rattle.cad_grammar.specs.declared.statement.Transfer.TheVariants as sign
use Rattle.cad_grammar.specs.declared.statement.VariableKind.TheVariants as v
use Rattle.cad_declarations.specs.declared.stop.Stop.{Stop}
use Rattle.cad_typing.proofs.SampleParts.{a, b, int, some_int, resource, some_resource, at, type, one, use_of, list_of_one, called, move, destroyed, made, let_is, let_of, let_moved, var_is, var_moved, set, returned, block, if_true, ill_script, in_script, ill_with_resource, in_contract}

-- ---- variables

-- a variable has the type of its value; a written type is expected
typed : ill_script (let_is a one ∷ let_of b some_int (use_of a) ∷ []) ≡ None
typed = refl

another_type : ill_script (let_is a one ∷ let_of b int (s.bool true) ∷ []) ≡ in_script 1
another_type = refl

-- one name in one scope
twice : ill_script (let_is a one ∷ let_is a one ∷ []) ≡ in_script 1
twice = refl

-- a variable may have the name of one of an outer scope, which stands again behind the block
hidden : ill_script (let_is a one ∷ if_true (let_is a (s.bool true) ∷ []) ∷ let_of b int (use_of a) ∷ []) ≡ None
hidden = refl

-- a variable isn't in scope behind its block
behind_block : ill_script (if_true (let_is a one ∷ []) ∷ let_is b (use_of a) ∷ []) ≡ in_script 2
behind_block = refl

-- only what is declared by `var` is assigned
let_assigned : ill_script (let_is a one ∷ set (use_of a) one ∷ []) ≡ in_script 1
let_assigned = refl

var_assigned : ill_script (var_is a one ∷ set (use_of a) one ∷ []) ≡ None
var_assigned = refl

-- ---- signs

-- a resource is moved by `<-`, without the sign behind it; any other value is copied by `=`
moved : ill_with_resource (let_moved a made ∷ destroyed a ∷ []) ≡ None
moved = refl

copied_resource : ill_with_resource (let_is a made ∷ []) ≡ in_contract 0
copied_resource = refl

moved_number : ill_with_resource (let_moved a one ∷ []) ≡ in_contract 0
moved_number = refl

moved_twice : ill_with_resource (let_moved a made ∷ let_moved b (move (use_of a)) ∷ []) ≡ in_contract 1
moved_twice = refl

-- `<-!` declares no variable
forced_variable : ill_with_resource (s.variable v.Let a None sign.ForceMove made None ∷ []) ≡ in_contract 0
forced_variable = refl

-- `<-!` fills a place of an optional type
filled : ill_with_resource (var_moved a some_resource s.nil ∷ s.assignment (use_of a) sign.ForceMove made ∷ destroyed a ∷ []) ≡ None
filled = refl

filled_for_good : ill_with_resource (var_moved a resource made ∷ s.assignment (use_of a) sign.ForceMove made ∷ destroyed a ∷ []) ≡ in_contract 1
filled_for_good = refl

-- `<-` sets fields alone
moved_into_variable : ill_with_resource (var_moved a some_resource s.nil ∷ s.assignment (use_of a) sign.Move made ∷ destroyed a ∷ []) ≡ in_contract 1
moved_into_variable = refl

-- ---- second values

second : ill_with_resource (var_moved a resource made ∷ s.variable v.Let b None sign.Move (use_of a) (Some (record { transfer = sign.Move; value = made })) ∷ destroyed a ∷ destroyed b ∷ []) ≡ None
second = refl

-- by `<-` alone
second_forced : ill_with_resource (var_moved a resource made ∷ s.variable v.Let b None sign.Move (use_of a) (Some (record { transfer = sign.ForceMove; value = made })) ∷ []) ≡ in_contract 1
second_forced = refl

-- of a resource alone
second_number : ill_script (var_is a one ∷ s.variable v.Let b None sign.Copy (use_of a) (Some (record { transfer = sign.Copy; value = one })) ∷ []) ≡ in_script 1
second_number = refl

-- ---- `if let`

abbrev bound_by : s.ExprTree → s.StmtTree
bound_by x = s.if_else (s.binding v.Let a None sign.Copy x) (block (let_of b int (use_of a) ∷ [])) s.nothing

if_let : ill_script (let_of a some_int one ∷ bound_by (use_of a) ∷ []) ≡ None
if_let = refl

if_let_number : ill_script (bound_by one ∷ []) ≡ in_script 0
if_let_number = refl

-- the block may declare the variable's name again
if_let_again : ill_script (let_of b some_int one ∷ s.if_else (s.binding v.Let a None sign.Copy (use_of b)) (block (let_is a one ∷ [])) s.nothing ∷ []) ≡ None
if_let_again = refl

-- the variable isn't in scope in the other branch
if_let_else : ill_script (let_of b some_int one ∷ s.if_else (s.binding v.Let a None sign.Copy (use_of b)) (block []) (s.else_block (block (let_is b (use_of a) ∷ []))) ∷ []) ≡ in_script 2
if_let_else = refl

-- a failable cast of a resource stands here alone, and its operand is a variable
if_cast : ill_with_resource (var_moved a (at (type (codes "AnyResource"))) made ∷ s.if_else (s.binding v.Let b None sign.Move (s.cast cast.Failable (use_of a) resource)) (block (destroyed b ∷ [])) (s.else_block (block (destroyed a ∷ []))) ∷ []) ≡ None
if_cast = refl

if_cast_of_moved : ill_with_resource (var_moved a (at (type (codes "AnyResource"))) made ∷ s.if_else (s.binding v.Let b None sign.Move (s.cast cast.Failable (move (use_of a)) resource)) (block (destroyed b ∷ [])) s.nothing ∷ []) ≡ in_contract 1
if_cast_of_moved = refl

let_cast : ill_with_resource (var_moved a (at (type (codes "AnyResource"))) made ∷ let_moved b (s.cast cast.Failable (use_of a) resource) ∷ []) ≡ in_contract 1
let_cast = refl

-- ---- loops

for_array : ill_script (s.for_loop (Some a) b list_of_one (block (let_of a int (use_of b) ∷ [])) ∷ []) ≡ None
for_array = refl

for_number : ill_script (s.for_loop None b one (block []) ∷ []) ≡ in_script 0
for_number = refl

-- two variables of one scope
for_twice : ill_script (s.for_loop (Some a) a list_of_one (block []) ∷ []) ≡ in_script 0
for_twice = refl

-- they aren't assigned
for_assigned : ill_script (s.for_loop None a list_of_one (block (set (use_of a) one ∷ [])) ∷ []) ≡ in_script 1
for_assigned = refl

for_resources : ill_with_resource (var_moved a (at (s.array (type (codes "R")))) (s.list s.no_exprs) ∷ s.for_loop None b (use_of a) (block []) ∷ []) ≡ in_contract 1
for_resources = refl

break_outside : ill_script (s.break_loop ∷ []) ≡ in_script 0
break_outside = refl

continue_in_loop : ill_script (s.while_loop (s.bool true) (block (s.continue_loop ∷ [])) ∷ []) ≡ None
continue_in_loop = refl

-- ---- `switch`

abbrev one_case : s.ExprTree → List s.StmtTree → s.Cases
one_case x all = s.cases x (block all) s.no_cases

-- `break` stands in a switch, `continue` in loops alone
break_in_switch : ill_script (s.switch one (one_case one (s.break_loop ∷ [])) s.no_default ∷ []) ≡ None
break_in_switch = refl

continue_in_switch : ill_script (s.switch one (one_case one (s.continue_loop ∷ [])) s.no_default ∷ []) ≡ in_script 1
continue_in_switch = refl

-- the values of all cases are judged before the statements of the first
case_of_another_type : ill_script (s.switch one (s.cases one (block (let_is b (use_of a) ∷ [])) (one_case (s.bool true) [])) s.no_default ∷ []) ≡ in_script 0
case_of_another_type = refl

-- an optional beside nil, whatever is in it
nil_case : ill_script (let_of a (record { is_resource = false; written = s.optional (type (codes "AnyStruct")) }) one ∷ s.switch (use_of a) (one_case s.nil []) s.no_default ∷ []) ≡ None
nil_case = refl

nil_case_of_number : ill_script (s.switch one (one_case s.nil []) s.no_default ∷ []) ≡ in_script 0
nil_case_of_number = refl

-- ---- the others

-- a value of resource type isn't lost in a statement
dropped : ill_with_resource (s.expression made ∷ []) ≡ in_contract 0
dropped = refl

-- what stands in each place fits the other
swapped : ill_script (var_is a one ∷ var_is b one ∷ s.swap (use_of a) (use_of b) ∷ []) ≡ None
swapped = refl

swapped_types : ill_script (var_is a one ∷ s.variable v.Var b (Some some_int) sign.Copy one None ∷ s.swap (use_of a) (use_of b) ∷ []) ≡ in_script 2
swapped_types = refl

-- a function without a result gives nothing back
returned_number : ill_script (returned one ∷ []) ≡ in_script 0
returned_number = refl

-- statements are numbered in source order, those in statements among them
numbers : ill_script (if_true (let_is a one ∷ if_true (let_is a one ∷ []) ∷ []) ∷ s.if_else (s.expression_test (s.bool true)) (block (let_is a one ∷ [])) (s.else_if (if_true (let_is b (use_of b) ∷ []))) ∷ []) ≡ in_script 7
numbers = refl
