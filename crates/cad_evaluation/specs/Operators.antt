-- Operators on values.
use Rattle.std.specs.Prelude.{ℕ, ◌+◌, ◌-◌, Bool, true, false, not, ◌&&◌, ◌||◌, ◌==◌, nat_lt, nat_le, List, [], ◌∷◌, Option, Some, None, option_map, if◌then◌else◌}
use Rattle.std.specs.Prelude.{int_lt}
use Rattle.cad_syntax.specs.declared.num.Num.{Num}
use Rattle.cad_grammar.specs.declared.expression.BinaryOperator.{BinaryOperator}
use Rattle.cad_grammar.specs.declared.expression.BinaryOperator.TheVariants as o
use Rattle.cad_grammar.specs.declared.expression.UnaryOperator.{UnaryOperator}
use Rattle.cad_grammar.specs.declared.expression.UnaryOperator.TheVariants as u
use Rattle.cad_num.specs.Numbers.{value_of}
use Rattle.cad_num.specs.declared.bitwise.BitOp.TheVariants as bit
use Rattle.cad_text.specs.Texts.{normal_form}
use Rattle.cad_values.specs.Sizes.{most_high}
use Rattle.cad_values.specs.Values.{PureValue, bool, number, string, character}
use Rattle.cad_world.specs.Rows.{Tree}
use Rattle.cad_world.specs.State.{Action, ◌>>=◌, ◌>>◌, give, stuck, guard, require, spend, with_some}
use Rattle.cad_world.specs.Same.{equal}
use Rattle.cad_world.specs.Trees as trees
use Rattle.cad_world.specs.Trees.{tree_weight, tree_height}
use Rattle.cad_world.specs.Receivers.{deref, is_reference}
use Rattle.cad_evaluation.specs.Numbers.{truth_of, bool_tree, on_numbers, sum, difference, product, quotient, remainder, bits, negated, same_kind}
use Rattle.cad_evaluation.specs.Casts.{dereferenced}

-- ---- comparisons

-- the units of both operands, 123 where one is too high
abbrev pub compared : Tree → Tree → Action (Unit {0})
compared a b = require 123 (nat_le (tree_height a) most_high && nat_le (tree_height b) most_high) (spend ((tree_weight a - 1) + (tree_weight b - 1)))

-- one list of bytes is before another
abbrev pub is_before : List ℕ → List ℕ → Bool
is_before [] [] = false
is_before [] (y ∷ ys) = true
is_before (x ∷ xs) [] = false
is_before (x ∷ xs) (y ∷ ys) = nat_lt x y || ((x == y) && is_before xs ys)

abbrev pub number_less : Num → Num → Option Bool
number_less x y = if same_kind x y then Some (int_lt (value_of x) (value_of y)) else None

-- numbers of one kind; false before true; texts and characters by their NFC forms
abbrev pub less_value : PureValue → PureValue → Option Bool
less_value (number x) (number y) = number_less x y
less_value (bool x) (bool y) = Some (not x && y)
less_value (string x) (string y) = Some (is_before (normal_form x) (normal_form y))
less_value (character x) (character y) = Some (is_before (normal_form x) (normal_form y))
less_value _ _ = None

abbrev pub less : Tree → Tree → Option Bool
less a b = less_value (trees.value_of a) (trees.value_of b)

abbrev pub same : Tree → Tree → Bool
same a b = equal (trees.value_of a) (trees.value_of b)

abbrev pub told : Option Bool → Action Tree
told x = with_some x (λ b. give (bool_tree b))

abbrev pub ordered : Option Bool → Tree → Tree → Action Tree
ordered x a b = with_some x (λ is. compared a b >> give (bool_tree is))

-- ---- operators of one operand

abbrev pub unary : UnaryOperator → Tree → Action Tree
unary u.Negate a = negated a
unary u.Not a = with_some (truth_of a) (λ x. give (bool_tree (not x)))
unary u.Dereference a = guard (is_reference a) (deref a.shape >>= dereferenced)
unary _ a = stuck

-- ---- operators of two operands that are both evaluated

abbrev pub binary : BinaryOperator → Tree → Tree → Action Tree
binary o.Add a b = on_numbers sum a b
binary o.Subtract a b = on_numbers difference a b
binary o.Multiply a b = on_numbers product a b
binary o.Divide a b = on_numbers quotient a b
binary o.Remainder a b = on_numbers remainder a b
binary o.BitAnd a b = on_numbers (bits bit.And) a b
binary o.BitOr a b = on_numbers (bits bit.Or) a b
binary o.BitXor a b = on_numbers (bits bit.Xor) a b
binary o.Less a b = ordered (less a b) a b
binary o.LessOrEqual a b = ordered (option_map not (less b a)) a b
binary o.Greater a b = ordered (less b a) a b
binary o.GreaterOrEqual a b = ordered (option_map not (less a b)) a b
binary o.Equal a b = compared a b >> give (bool_tree (same a b))
binary o.NotEqual a b = compared a b >> give (bool_tree (not (same a b)))
binary _ a b = stuck
