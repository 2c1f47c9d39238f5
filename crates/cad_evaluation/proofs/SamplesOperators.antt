-- Operators, comparisons, and the members of numbers.
use Rattle.std.specs.Prelude.{true, false, [], ◌∷◌, ◌≡◌, refl, codes}
use Rattle.cad_syntax.specs.Types.{basic, optional, array}
use Rattle.cad_syntax.specs.declared.kind.Kind.TheVariants as k
use Rattle.cad_syntax.specs.declared.types.Basic.TheVariants as b
use Rattle.cad_grammar.specs.declared.expression.BinaryOperator.TheVariants as o
use Rattle.cad_grammar.specs.declared.expression.UnaryOperator.TheVariants as u
use Rattle.cad_types.specs.declared.builtin.Builtin.TheVariants as m
use Rattle.cad_num.specs.Numbers as n
use Rattle.cad_num.specs.Decimal as decimal
use Rattle.cad_declarations.specs.Typed as e
use Rattle.cad_values.specs.Values as v
use Rattle.cad_evaluation.proofs.SampleParts.{minus, int, literal, int_type, gave, failed_with}
use Rattle.cad_evaluation.proofs.SampleForms.{bool_type, text_type, any_type, of_kind, ints, table, of_int, text, copy, giving, list, pairs, pair, calls_on, of_type, fails, declares, gives, of}

-- a Word8 of 255 and 1 wraps
word_wraps : gives (of_kind k.Word8) [] (e.binary o.Add (of_int k.Word8 255) (of_int k.Word8 1)) ≡ gave (of k.Word8 0) 29
unfolding n.outcome
word_wraps = refl

-- 0.00000001 * 0.5, of UFix64
small_product : gives (of_kind k.UFix64) [] (e.binary o.Multiply (of_int k.UFix64 1) (of_int k.UFix64 50000000)) ≡ gave (of k.UFix64 0) 29
unfolding n.outcome
small_product = refl

-- 7 - 9
difference : gives int_type [] (e.binary o.Subtract (literal 7) (literal 9)) ≡ gave (v.number (minus k.Int 2)) 29
unfolding n.outcome
difference = refl

-- -7 / 2 and -7 % 2 are cut towards zero
quotient : gives int_type [] (e.binary o.Divide (e.unary u.Negate (literal 7)) (literal 2)) ≡ gave (v.number (minus k.Int 3)) 29
unfolding n.outcome
quotient = refl

remainder : gives int_type [] (e.binary o.Remainder (e.unary u.Negate (literal 7)) (literal 2)) ≡ gave (v.number (minus k.Int 1)) 29
unfolding n.outcome
remainder = refl

-- 5 % 0: 103
no_remainder : gives int_type [] (e.binary o.Remainder (literal 5) (literal 0)) ≡ failed_with 103
unfolding n.outcome
no_remainder = refl

-- 6 & 3, 6 | 3, 6 ^ 3
bits_of_both : gives int_type [] (e.binary o.BitAnd (literal 6) (literal 3)) ≡ gave (int 2) 29
unfolding n.outcome
bits_of_both = refl

bits_of_either : gives int_type [] (e.binary o.BitOr (literal 6) (literal 3)) ≡ gave (int 7) 29
unfolding n.outcome
bits_of_either = refl

bits_of_one : gives int_type [] (e.binary o.BitXor (literal 6) (literal 3)) ≡ gave (int 5) 29
unfolding n.outcome
bits_of_one = refl

-- the least Int8 is written as a literal; less 1 it is 102
least : gives (of_kind k.Int8) [] (e.number (minus k.Int8 128)) ≡ gave (v.number (minus k.Int8 128)) 29
unfolding n.outcome
least = refl

below_least : gives (of_kind k.Int8) [] (e.binary o.Subtract (e.number (minus k.Int8 128)) (of_int k.Int8 1)) ≡ failed_with 102
unfolding n.outcome
below_least = refl

-- ---- comparisons

-- 1 <= 1, 1 > 2, 1 >= 2
at_most : gives bool_type [] (e.binary o.LessOrEqual (literal 1) (literal 1)) ≡ gave (v.bool true) 29
unfolding n.outcome
at_most = refl

greater : gives bool_type [] (e.binary o.Greater (literal 1) (literal 2)) ≡ gave (v.bool false) 29
unfolding n.outcome
greater = refl

at_least : gives bool_type [] (e.binary o.GreaterOrEqual (literal 1) (literal 2)) ≡ gave (v.bool false) 29
unfolding n.outcome
at_least = refl

-- 1 == 1, 1 != 1
equal : gives bool_type [] (e.binary o.Equal (literal 1) (literal 1)) ≡ gave (v.bool true) 29
unfolding n.outcome
equal = refl

unequal : gives bool_type [] (e.binary o.NotEqual (literal 1) (literal 1)) ≡ gave (v.bool false) 29
unfolding n.outcome
unequal = refl

-- false < true
less_truth : gives bool_type [] (e.binary o.Less (e.bool false) (e.bool true)) ≡ gave (v.bool true) 29
unfolding n.outcome
less_truth = refl

-- !true
not_true : gives bool_type [] (e.unary u.Not (e.bool true)) ≡ gave (v.bool false) 29
unfolding n.outcome
not_true = refl

-- [1] == [1]: a unit for each element
equal_arrays : gives bool_type (declares 0 ints (list (literal 1 ∷ [])) ∷ declares 1 ints (list (literal 1 ∷ [])) ∷ []) (e.binary o.Equal (copy 0) (copy 1)) ≡ gave (v.bool true) 23
unfolding n.outcome
equal_arrays = refl

-- the order of keys and the own types of containers don't count
equal_tables : gives bool_type (declares 0 table (pairs (pair 1 1 ∷ pair 2 2 ∷ [])) ∷ declares 1 any_type (e.dictionary int_type any_type (e.entries_of (pair 2 2 ∷ pair 1 1 ∷ []))) ∷ []) (e.binary o.Equal (copy 0) (copy 1)) ≡ gave (v.bool true) 11
unfolding n.outcome
equal_tables = refl

-- other keys, other tables
unequal_tables : gives bool_type (declares 0 table (pairs (pair 1 1 ∷ [])) ∷ declares 1 table (pairs (pair 2 1 ∷ [])) ∷ []) (e.binary o.Equal (copy 0) (copy 1)) ≡ gave (v.bool false) 19
unfolding n.outcome
unequal_tables = refl

-- beside the literal nil no unit is taken
is_nil : gives bool_type (declares 0 (optional ints) (list (literal 1 ∷ literal 2 ∷ [])) ∷ []) (e.is_nil (e.variable 0) false) ≡ gave (v.bool false) 26
unfolding n.outcome
is_nil = refl

is_not_nil : gives bool_type (declares 0 (optional ints) (list (literal 1 ∷ literal 2 ∷ [])) ∷ []) (e.is_nil (e.variable 0) true) ≡ gave (v.bool true) 26
unfolding n.outcome
is_not_nil = refl

-- true || 1 / 0 == 1
true_or : gives bool_type [] (e.binary o.Or (e.bool true) (e.binary o.Equal fails (literal 1))) ≡ gave (v.bool true) 29
unfolding n.outcome
true_or = refl

-- a ?? 1 / 0 where a isn't nil
content_is_there : gives int_type (declares 0 (optional int_type) (literal 5) ∷ []) (e.coalesce (copy 0) fails true int_type) ≡ gave (int 5) 28
unfolding n.outcome
content_is_there = refl

-- a Character weighs 1, a short text 2
character_weight : gives int_type (declares 0 (array (basic b.Character)) (e.array (basic b.Character) (e.terms_of (e.character (codes "a") ∷ e.character (codes "b") ∷ []))) ∷ []) (literal 0) ≡ gave (int 0) 26
unfolding n.outcome
character_weight = refl

text_weight : gives int_type (declares 0 text_type (text (codes "a")) ∷ []) (literal 0) ≡ gave (int 0) 27
unfolding n.outcome
text_weight = refl

-- ---- members of numbers

-- saturatingAdd, saturatingSubtract, saturatingMultiply, saturatingDivide
saturated_sum : gives (of_kind k.Int8) [] (calls_on (of_kind k.Int8) (of_int k.Int8 127) m.SaturatingAdd (giving (of_int k.Int8 1) (of_kind k.Int8) ∷ [])) ≡ gave (of k.Int8 127) 28
unfolding n.outcome n.nearest
saturated_sum = refl

saturated_difference : gives (of_kind k.UInt8) [] (calls_on (of_kind k.UInt8) (of_int k.UInt8 1) m.SaturatingSubtract (giving (of_int k.UInt8 2) (of_kind k.UInt8) ∷ [])) ≡ gave (of k.UInt8 0) 28
unfolding n.outcome n.nearest
saturated_difference = refl

saturated_product : gives (of_kind k.Int8) [] (calls_on (of_kind k.Int8) (of_int k.Int8 100) m.SaturatingMultiply (giving (of_int k.Int8 2) (of_kind k.Int8) ∷ [])) ≡ gave (of k.Int8 127) 28
unfolding n.outcome n.nearest
saturated_product = refl

saturated_quotient : gives (of_kind k.Int8) [] (calls_on (of_kind k.Int8) (e.number (minus k.Int8 128)) m.SaturatingDivide (giving (e.number (minus k.Int8 1)) (of_kind k.Int8) ∷ [])) ≡ gave (of k.Int8 127) 28
unfolding n.outcome n.nearest
saturated_quotient = refl

-- Int(1.5)
cut_off : gives int_type [] (of_type (m.NumberConvert k.Int) (giving (of_int k.UFix64 150000000) (of_kind k.UFix64) ∷ [])) ≡ gave (int 1) 28
unfolding n.outcome
cut_off = refl

-- UInt8.max takes no unit
maximum : gives (of_kind k.UInt8) [] (e.builtin (m.NumberMax k.UInt8) [] e.no_arguments) ≡ gave (of k.UInt8 255) 29
unfolding n.outcome
maximum = refl

-- Int.fromString("12"), and of what is no number
number_read : gives (optional int_type) [] (of_type (m.NumberFromString k.Int) (giving (text (codes "12")) text_type ∷ [])) ≡ gave (v.some (int 12)) 27
unfolding n.outcome decimal.read_of
number_read = refl

no_number : gives (optional int_type) [] (of_type (m.NumberFromString k.Int) (giving (text (codes "x")) text_type ∷ [])) ≡ gave (v.nil) 27
unfolding n.outcome decimal.read_of
no_number = refl
