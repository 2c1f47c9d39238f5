-- Operators: the same while the units last.
use Rattle.std.specs.Prelude.{◌+◌, ◌-◌, Bool, not, ◌&&◌, nat_le, Option, option_map}
use Rattle.cad_grammar.specs.declared.expression.BinaryOperator.{BinaryOperator}
use Rattle.cad_grammar.specs.declared.expression.BinaryOperator.TheVariants as o
use Rattle.cad_grammar.specs.declared.expression.UnaryOperator.{UnaryOperator}
use Rattle.cad_grammar.specs.declared.expression.UnaryOperator.TheVariants as u
use Rattle.cad_num.specs.declared.bitwise.BitOp.TheVariants as bit
use Rattle.cad_values.specs.Sizes.{most_high}
use Rattle.cad_world.specs.Rows.{Tree}
use Rattle.cad_world.specs.Trees.{tree_weight, tree_height}
use Rattle.cad_world.specs.Receivers.{is_reference}
use Rattle.cad_evaluation.specs.Numbers.{truth_of, bool_tree, sum, difference, product, quotient, remainder, bits}
use Rattle.cad_evaluation.specs.Operators.{compared, less, same, told, ordered, unary, binary}
use Rattle.cad_bounds.proofs.Same.{Runs, Same, same_give, same_stuck, same_spend, same_some, same_guard, same_require, same_bind}
use Rattle.cad_bounds.proofs.Casts.{same_dereferenced}
use Rattle.cad_bounds.proofs.Numbers.{same_negated, same_on_numbers}
use Rattle.cad_bounds.proofs.Receivers.{same_deref}

pub same_compared : (R : Runs) (x1 : Tree) (x2 : Tree) → Same R (compared x1 x2) (compared x1 x2)
same_compared R a b = same_require R 123 (nat_le (tree_height a) most_high && nat_le (tree_height b) most_high) _ _ (same_spend R ((tree_weight a - 1) + (tree_weight b - 1)))

pub same_told : (R : Runs) (x1 : Option Bool) → Same R (told x1) (told x1)
same_told R x = same_some R x _ _ (λ b. (same_give R (bool_tree b)))

pub same_ordered : (R : Runs) (x1 : Option Bool) (x2 : Tree) (x3 : Tree) → Same R (ordered x1 x2 x3) (ordered x1 x2 x3)
same_ordered R x a b = same_some R x _ _ (λ is. (same_bind R _ _ _ _ (same_compared R a b) (λ u1. (same_give R (bool_tree is)))))

pub same_unary : (R : Runs) (x1 : UnaryOperator) (x2 : Tree) → Same R (unary x1 x2) (unary x1 x2)
same_unary R u.Negate a = same_negated R a
same_unary R u.Not a = same_some R (truth_of a) _ _ (λ x. (same_give R (bool_tree (not x))))
same_unary R u.Dereference a = same_guard R (is_reference a) _ _ (same_bind R _ _ _ _ (same_deref R a.shape) (λ v1. (same_dereferenced R v1)))
same_unary R _ a = same_stuck R

pub same_binary : (R : Runs) (x1 : BinaryOperator) (x2 : Tree) (x3 : Tree) → Same R (binary x1 x2 x3) (binary x1 x2 x3)
same_binary R o.Add a b = same_on_numbers R sum a b
same_binary R o.Subtract a b = same_on_numbers R difference a b
same_binary R o.Multiply a b = same_on_numbers R product a b
same_binary R o.Divide a b = same_on_numbers R quotient a b
same_binary R o.Remainder a b = same_on_numbers R remainder a b
same_binary R o.BitAnd a b = same_on_numbers R (bits bit.And) a b
same_binary R o.BitOr a b = same_on_numbers R (bits bit.Or) a b
same_binary R o.BitXor a b = same_on_numbers R (bits bit.Xor) a b
same_binary R o.Less a b = same_ordered R (less a b) a b
same_binary R o.LessOrEqual a b = same_ordered R (option_map not (less b a)) a b
same_binary R o.Greater a b = same_ordered R (less b a) a b
same_binary R o.GreaterOrEqual a b = same_ordered R (option_map not (less a b)) a b
same_binary R o.Equal a b = same_bind R _ _ _ _ (same_compared R a b) (λ u1. (same_give R (bool_tree (same a b))))
same_binary R o.NotEqual a b = same_bind R _ _ _ _ (same_compared R a b) (λ u1. (same_give R (bool_tree (not (same a b)))))
same_binary R _ a b = same_stuck R
