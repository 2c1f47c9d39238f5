-- Expressions and statements without declared types: the value and the units left, an error, or Limit.
use Rattle.std.specs.Prelude.{ℕ, Bool, true, false, List, [], ◌∷◌, Option, Some, None, ◌≡◌, refl, codes}
use Rattle.cad_syntax.specs.Types.{PureType, basic, optional, array, dictionary, declared, reference}
use Rattle.cad_syntax.specs.declared.kind.Kind.TheVariants as k
use Rattle.cad_syntax.specs.declared.types.Authorization.TheVariants.{Unauthorized, All}
use Rattle.cad_syntax.specs.declared.types.Basic.TheVariants as b
use Rattle.cad_grammar.specs.declared.expression.BinaryOperator.TheVariants as o
use Rattle.cad_grammar.specs.declared.expression.UnaryOperator.TheVariants as u
use Rattle.cad_grammar.specs.declared.expression.CastKind.TheVariants as c
use Rattle.cad_types.specs.declared.builtin.Builtin.TheVariants as m
use Rattle.cad_num.specs.Numbers as n
use Rattle.cad_declarations.specs.Typed as e
use Rattle.cad_values.specs.Values as v
use Rattle.cad_evaluation.proofs.SampleParts.{num, minus, int, literal, int_type, named, block, variable, Seen, gave, failed_with, without_units, ill_typed, alone}

-- 1 + 2 * 3
sum : alone int_type (e.return_value 0 (e.binary o.Add (literal 1) (e.binary o.Multiply (literal 2) (literal 3))) int_type ∷ []) 9 ≡ gave (int 7) 8
unfolding n.outcome
sum = refl

-- a statement takes a unit
no_unit : alone int_type (e.return_value 0 (literal 1) int_type ∷ []) 0 ≡ without_units
unfolding n.outcome
no_unit = refl

-- an Int8 of 127 and 1: 101
overflow : alone (basic (b.Number k.Int8)) (e.return_value 0 (e.binary o.Add (e.number (num k.Int8 127)) (e.number (num k.Int8 1))) (basic (b.Number k.Int8)) ∷ []) 9 ≡ failed_with 101
unfolding n.outcome
overflow = refl

-- a UInt of 0 less 1: 102
underflow : alone (basic (b.Number k.UInt)) (e.return_value 0 (e.binary o.Subtract (e.number (num k.UInt 0)) (e.number (num k.UInt 1))) (basic (b.Number k.UInt)) ∷ []) 9 ≡ failed_with 102
unfolding n.outcome
underflow = refl

-- 1 / 0: 103
zero_division : alone int_type (e.return_value 0 (e.binary o.Divide (literal 1) (literal 0)) int_type ∷ []) 9 ≡ failed_with 103
unfolding n.outcome
zero_division = refl

-- operands of two kinds are ill-typed
two_kinds : alone int_type (e.return_value 0 (e.binary o.Add (literal 1) (e.number (num k.UInt8 1))) int_type ∷ []) 9 ≡ ill_typed
unfolding n.outcome
two_kinds = refl

-- -(5)
negated : alone int_type (e.return_value 0 (e.unary u.Negate (literal 5)) int_type ∷ []) 9 ≡ gave (v.number (minus k.Int 5)) 8
unfolding n.outcome
negated = refl

-- 1 < 2
less : alone (basic b.Bool) (e.return_value 0 (e.binary o.Less (literal 1) (literal 2)) (basic b.Bool) ∷ []) 9 ≡ gave (v.bool true) 8
unfolding n.outcome
less = refl

-- false && (1 / 0 == 1): the second isn't evaluated
false_and : alone (basic b.Bool) (e.return_value 0 (e.binary o.And (e.bool false) (e.binary o.Equal (e.binary o.Divide (literal 1) (literal 0)) (literal 1))) (basic b.Bool) ∷ []) 9 ≡ gave (v.bool false) 8
unfolding n.outcome
false_and = refl

-- true ? 1 : 1 / 0
chosen : alone int_type (e.return_value 0 (e.conditional (e.bool true) (literal 1) (e.binary o.Divide (literal 1) (literal 0))) int_type ∷ []) 9 ≡ gave (int 1) 8
unfolding n.outcome
chosen = refl

-- an Int comes to Int?
wrapped : alone (optional int_type) (e.return_value 0 (literal 1) (optional int_type) ∷ []) 9 ≡ gave (v.some (int 1)) 8
unfolding n.outcome
wrapped = refl

-- nil stays nil in an Int??
nil_stays : alone (optional (optional int_type)) (e.return_value 0 e.nil (optional (optional int_type)) ∷ []) 9 ≡ gave v.nil 8
unfolding n.outcome
nil_stays = refl

-- nil!: 106
force_nil : alone int_type (e.return_value 0 (e.force e.nil) int_type ∷ []) 9 ≡ failed_with 106
unfolding n.outcome
force_nil = refl

-- nil ?? 4
coalesced : alone int_type (e.return_value 0 (e.coalesce e.nil (literal 4) true int_type) int_type ∷ []) 9 ≡ gave (int 4) 8
unfolding n.outcome
coalesced = refl

-- an optional of nil in an optional ?? 4: 4 is wrapped
coalesced_wrapped : alone (optional int_type) (e.declare 0 (variable 0 (optional (optional int_type))) e.nil ∷ e.return_value 0 (e.coalesce (e.copy (e.variable 0)) (literal 4) true (optional int_type)) (optional int_type) ∷ []) 9 ≡ gave (v.some (int 4)) 7
unfolding n.outcome
coalesced_wrapped = refl

-- let a = [1]; var b = a; b[0] = 2; return a[0]: a container is copied
copied : alone int_type (e.declare 0 (variable 0 (array int_type)) (e.array int_type (e.terms_of ((literal 1) ∷ []))) ∷ e.declare 0 (variable 1 (array int_type)) (e.copy (e.variable 0)) ∷ e.assign 0 (e.element (e.variable 1) (array int_type) (literal 0)) (literal 2) int_type ∷ e.return_value 0 (e.index (e.variable 0) (array int_type) (literal 0)) int_type ∷ []) 9 ≡ gave (int 1) 3
unfolding n.outcome
copied = refl

-- [1][1]: 104
out_of_bounds : alone int_type (e.declare 0 (variable 0 (array int_type)) (e.array int_type (e.terms_of ((literal 1) ∷ []))) ∷ e.return_value 0 (e.index (e.variable 0) (array int_type) (literal 1)) int_type ∷ []) 9 ≡ failed_with 104
unfolding n.outcome
out_of_bounds = refl

-- a[5] = 1 / 0: 104 comes after the value
assigned_late : alone int_type (e.declare 0 (variable 0 (array int_type)) (e.array int_type (e.terms_of ((literal 1) ∷ []))) ∷ e.assign 0 (e.element (e.variable 0) (array int_type) (literal 5)) (e.binary o.Divide (literal 1) (literal 0)) int_type ∷ e.return_value 0 (literal 1) int_type ∷ []) 9 ≡ failed_with 103
unfolding n.outcome
assigned_late = refl

-- a.append(2); a.length
appended : alone int_type (e.declare 0 (variable 0 (array int_type)) (e.array int_type (e.terms_of ((literal 1) ∷ []))) ∷ e.expression 0 (e.on (e.variable 0) (e.builtin_call m.ArrayAppend [] (e.arguments_of (record { value = (literal 2); target = int_type } ∷ [])))) ∷ e.return_value 0 (e.on (e.variable 0) (e.builtin_field m.ArrayLength)) int_type ∷ []) 9 ≡ gave (int 2) 4
unfolding n.outcome
appended = refl

-- a [AnyStruct] in whose array Ints stand takes no Bool: 129
other_element : alone int_type (e.declare 0 (variable 0 (array (basic b.AnyStruct))) (e.array int_type (e.terms_of ((literal 1) ∷ []))) ∷ e.expression 0 (e.on (e.variable 0) (e.builtin_call m.ArrayAppend [] (e.arguments_of (record { value = (e.bool true); target = (basic b.AnyStruct) } ∷ [])))) ∷ e.return_value 0 (literal 1) int_type ∷ []) 9 ≡ failed_with 129
unfolding n.outcome
other_element = refl

-- [1, 2].remove(at: 0)
removed : alone int_type (e.declare 0 (variable 0 (array int_type)) (e.array int_type (e.terms_of ((literal 1) ∷ (literal 2) ∷ []))) ∷ e.return_value 0 (e.on (e.variable 0) (e.builtin_call m.ArrayRemove [] (e.arguments_of (record { value = (literal 0); target = int_type } ∷ [])))) int_type ∷ []) 9 ≡ gave (int 1) 4
unfolding n.outcome
removed = refl

-- {1: 10, 1: 11}[1]: the later value at the first place
later_value : alone int_type (e.declare 0 (variable 0 (dictionary int_type int_type)) (e.dictionary int_type int_type (e.entries (literal 1) (literal 10) (e.entries (literal 1) (literal 11) e.no_entries))) ∷ e.return_value 0 (e.force (e.index (e.variable 0) (dictionary int_type int_type) (literal 1))) int_type ∷ []) 9 ≡ gave (int 11) 5
unfolding n.outcome
later_value = refl

-- {1: 10, 1: 11}[2]: nil
absent_key : alone (optional int_type) (e.declare 0 (variable 0 (dictionary int_type int_type)) (e.dictionary int_type int_type (e.entries (literal 1) (literal 10) (e.entries (literal 1) (literal 11) e.no_entries))) ∷ e.return_value 0 (e.index (e.variable 0) (dictionary int_type int_type) (literal 2)) (optional int_type) ∷ []) 9 ≡ gave v.nil 5
unfolding n.outcome
absent_key = refl

-- d[1] = nil; d.length
key_away : alone int_type (e.declare 0 (variable 0 (dictionary int_type int_type)) (e.dictionary int_type int_type (e.entries (literal 1) (literal 10) (e.entries (literal 1) (literal 11) e.no_entries))) ∷ e.assign 0 (e.element (e.variable 0) (dictionary int_type int_type) (literal 1)) e.nil (optional int_type) ∷ e.return_value 0 (e.on (e.variable 0) (e.builtin_field m.DictionaryLength)) int_type ∷ []) 9 ≡ gave (int 0) 4
unfolding n.outcome
key_away = refl

-- a <-> b
swapped : alone int_type (e.declare 0 (variable 0 int_type) (literal 1) ∷ e.declare 0 (variable 1 int_type) (literal 2) ∷ e.swap 0 (e.variable 0) int_type (e.variable 1) int_type ∷ e.return_value 0 (e.binary o.Subtract (e.copy (e.variable 0)) (e.copy (e.variable 1))) int_type ∷ []) 9 ≡ gave (int 1) 5
unfolding n.outcome
swapped = refl

-- x <-! 1 where x isn't nil: 115
forced_occupied : alone int_type (e.declare 0 (variable 0 (optional int_type)) (literal 1) ∷ e.force_assign 0 (e.variable 0) (literal 2) (optional int_type) ∷ e.return_value 0 (literal 1) int_type ∷ []) 9 ≡ failed_with 115
unfolding n.outcome
forced_occupied = refl

-- var i = 0; while i < 3 { i = i + 1 }: a unit for each turn and statement
loop : alone int_type (e.declare 0 (variable 0 int_type) (literal 0) ∷ e.while_loop 0 (e.binary o.Less (e.copy (e.variable 0)) (literal 3)) (block 1 (e.assign 0 (e.variable 0) (e.binary o.Add (e.copy (e.variable 0)) (literal 1)) int_type ∷ [])) ∷ e.return_value 0 (e.copy (e.variable 0)) int_type ∷ []) 9 ≡ gave (int 3) 0
unfolding n.outcome
loop = refl

-- for x in [1, 2] { s = s + x }
over : alone int_type (e.declare 0 (variable 0 int_type) (literal 0) ∷ e.for_loop 0 None (variable 1 int_type) (e.array int_type (e.terms_of ((literal 1) ∷ (literal 2) ∷ []))) (array int_type) (block 2 (e.assign 0 (e.variable 0) (e.binary o.Add (e.copy (e.variable 0)) (e.copy (e.variable 1))) int_type ∷ [])) ∷ e.return_value 0 (e.copy (e.variable 0)) int_type ∷ []) 13 ≡ gave (int 3) 4
unfolding n.outcome
over = refl

-- while true { break }
broken : alone int_type (e.while_loop 0 (e.bool true) (block 0 (e.break_loop 0 ∷ [])) ∷ e.return_value 0 (literal 1) int_type ∷ []) 9 ≡ gave (int 1) 5
unfolding n.outcome
broken = refl

-- switch 2 { case 1: return 10; case 2: return 20 }
switched : alone int_type (e.switch 0 (literal 2) (e.cases_of (record { value = (literal 1); body = (block 0 (e.return_value 0 (literal 10) int_type ∷ [])) } ∷ record { value = (literal 2); body = (block 0 (e.return_value 0 (literal 20) int_type ∷ [])) } ∷ [])) (block 0 ([])) ∷ e.return_value 0 (literal 0) int_type ∷ []) 9 ≡ gave (int 20) 7
unfolding n.outcome
switched = refl

-- if let x = a { return x }
if_let : alone int_type (e.declare 0 (variable 0 (optional int_type)) (literal 5) ∷ e.if_let 0 (variable 1 int_type) (e.copy (e.variable 0)) (optional int_type) (block 2 (e.return_value 0 (e.copy (e.variable 1)) int_type ∷ [])) (block 1 ([])) ∷ e.return_value 0 (literal 0) int_type ∷ []) 9 ≡ gave (int 5) 6
unfolding n.outcome
if_let = refl

-- 1 as! Bool, of an AnyStruct: 107
cast_fails : alone (basic b.Bool) (e.declare 0 (variable 0 (basic b.AnyStruct)) (literal 1) ∷ e.return_value 0 (e.cast c.Forced (e.copy (e.variable 0)) (basic b.Bool)) (basic b.Bool) ∷ []) 9 ≡ failed_with 107
unfolding n.outcome
cast_fails = refl

-- (1 as? Int?) of an AnyStruct is nil
cast_to_optional : alone (optional (optional int_type)) (e.declare 0 (variable 0 (basic b.AnyStruct)) (literal 1) ∷ e.return_value 0 (e.cast c.Failable (e.copy (e.variable 0)) (optional int_type)) (optional (optional int_type)) ∷ []) 9 ≡ gave v.nil 7
unfolding n.outcome
cast_to_optional = refl

-- let r = &x as &Int; *r
dereferenced : alone int_type (e.declare 0 (variable 0 int_type) (literal 5) ∷ e.declare 0 (variable 1 (reference Unauthorized int_type)) (e.borrow (e.variable 0) Unauthorized int_type false false) ∷ e.return_value 0 (e.unary u.Dereference (e.copy (e.variable 1))) int_type ∷ []) 9 ≡ gave (int 5) 6
unfolding n.outcome
dereferenced = refl

-- a reference to a value that was replaced: 113
replaced_node : alone int_type (e.declare 0 (variable 0 int_type) (literal 5) ∷ e.declare 0 (variable 1 (reference Unauthorized int_type)) (e.borrow (e.variable 0) Unauthorized int_type false false) ∷ e.assign 0 (e.variable 0) (literal 6) int_type ∷ e.return_value 0 (e.unary u.Dereference (e.copy (e.variable 1))) int_type ∷ []) 9 ≡ failed_with 113
unfolding n.outcome
replaced_node = refl

-- a reference to a variable that ended: 113
ended_variable : alone int_type (e.declare 0 (variable 0 (optional (reference Unauthorized int_type))) e.nil ∷ e.if_else 0 (e.bool true) (block 1 (e.declare 0 (variable 1 int_type) (literal 5) ∷ e.assign 0 (e.variable 0) (e.borrow (e.variable 1) Unauthorized int_type false false) (optional (reference Unauthorized int_type)) ∷ [])) (block 1 ([])) ∷ e.return_value 0 (e.unary u.Dereference (e.force (e.copy (e.variable 0)))) int_type ∷ []) 9 ≡ failed_with 113
unfolding n.outcome
ended_variable = refl

-- a reference isn't named by a reference: 107
of_reference : alone int_type (e.declare 0 (variable 0 int_type) (literal 5) ∷ e.declare 0 (variable 1 (basic b.AnyStruct)) (e.borrow (e.variable 0) Unauthorized int_type false false) ∷ e.declare 0 (variable 2 (reference Unauthorized (basic b.AnyStruct))) (e.borrow (e.variable 1) Unauthorized (basic b.AnyStruct) false false) ∷ e.return_value 0 (literal 1) int_type ∷ []) 9 ≡ failed_with 107
unfolding n.outcome
of_reference = refl

-- panic("x"): its unit, then 109
panicked : alone int_type (e.return_value 0 (e.builtin m.Panic [] (e.arguments_of (record { value = (e.string (codes "x")); target = (basic b.String) } ∷ []))) int_type ∷ []) 9 ≡ failed_with 109
unfolding n.outcome
panicked = refl

-- panic without a unit is Limit
panic_without_unit : alone int_type (e.return_value 0 (e.builtin m.Panic [] (e.arguments_of (record { value = (e.string (codes "x")); target = (basic b.String) } ∷ []))) int_type ∷ []) 2 ≡ without_units
unfolding n.outcome
panic_without_unit = refl

-- assert(false): 110
asserted : alone int_type (e.expression 0 (e.builtin m.Assert [] (e.arguments_of (record { value = (e.bool false); target = (basic b.Bool) } ∷ []))) ∷ e.return_value 0 (literal 1) int_type ∷ []) 9 ≡ failed_with 110
unfolding n.outcome
asserted = refl

-- Int8.min takes no unit
minimum : alone (basic (b.Number k.Int8)) (e.return_value 0 (e.builtin (m.NumberMin k.Int8) [] e.no_arguments) (basic (b.Number k.Int8)) ∷ []) 9 ≡ gave (v.number (minus k.Int8 128)) 8
unfolding n.outcome
minimum = refl

-- UInt8(256): 101
converted : alone (basic (b.Number k.UInt8)) (e.return_value 0 (e.builtin (m.NumberConvert k.UInt8) [] (e.arguments_of (record { value = (literal 256); target = int_type } ∷ []))) (basic (b.Number k.UInt8)) ∷ []) 9 ≡ failed_with 101
unfolding n.outcome
converted = refl

-- UInt16(258).toBigEndianBytes(): a unit for each byte
big_endian : alone (array (basic (b.Number k.UInt8))) (e.return_value 0 (e.hold 0 (basic (b.Number k.UInt16)) (e.number (num k.UInt16 258)) (e.on (e.variable 0) (e.builtin_call m.NumberToBigEndianBytes [] e.no_arguments))) (array (basic (b.Number k.UInt8))) ∷ []) 9 ≡ gave (v.array (basic (b.Number k.UInt8)) (v.values_of (v.number (num k.UInt8 1) ∷ v.number (num k.UInt8 2) ∷ []))) 3
unfolding n.outcome
big_endian = refl

-- (1).isInstance(Type<Int>())
instance : alone (basic b.Bool) (e.return_value 0 (e.hold 0 int_type (literal 1) (e.on (e.variable 0) (e.builtin_call m.IsInstance [] (e.arguments_of (record { value = (e.meta int_type); target = (basic b.Meta) } ∷ []))))) (basic b.Bool) ∷ []) 9 ≡ gave (v.bool true) 6
unfolding n.outcome
instance = refl

-- Type<[Int]>().identifier
type_name : alone (basic b.String) (e.return_value 0 (e.hold 0 (basic b.Meta) (e.meta (array int_type)) (e.on (e.variable 0) (e.builtin_field m.TypeIdentifier))) (basic b.String) ∷ []) 9 ≡ gave (v.string (codes "[Int]")) 5
unfolding n.outcome
type_name = refl

-- nil?.toString() evaluates no argument and takes no unit
optional_receiver : alone (optional int_type) (e.declare 0 (variable 0 (optional int_type)) e.nil ∷ e.return_value 0 (e.chain (e.content (e.variable 0) false) (e.builtin_call m.SaturatingAdd [] (e.arguments_of (record { value = (e.binary o.Divide (literal 1) (literal 0)); target = int_type } ∷ []))) true) (optional int_type) ∷ []) 9 ≡ gave v.nil 7
unfolding n.outcome
optional_receiver = refl

-- an end without a needed result is ill-typed
no_result : alone int_type (e.expression 0 (literal 1) ∷ []) 9 ≡ ill_typed
unfolding n.outcome
no_result = refl
