-- Operators: labels are kept apart, and values in hand have none.
use Rattle.std.specs.Prelude.{◌+◌, ◌-◌, Bool, not, ◌&&◌, nat_le, Option, option_map}
use Rattle.cad_grammar.specs.declared.expression.BinaryOperator.{BinaryOperator}
use Rattle.cad_grammar.specs.declared.expression.BinaryOperator.TheVariants as o
use Rattle.cad_grammar.specs.declared.expression.UnaryOperator.{UnaryOperator}
use Rattle.cad_grammar.specs.declared.expression.UnaryOperator.TheVariants as u
use Rattle.cad_num.specs.declared.bitwise.BitOp.TheVariants as bit
use Rattle.cad_values.specs.Sizes.{most_high}
use Rattle.cad_world.specs.Rows.{Tree}
use Rattle.cad_world.specs.Trees.{tree_weight, tree_height}
use Rattle.cad_world.specs.Receivers.{is_reference}
use Rattle.cad_evaluation.specs.Numbers.{truth_of, bool_tree, sum, difference, product, quotient, remainder, bits}
use Rattle.cad_evaluation.specs.Operators.{compared, less, same, told, ordered, unary, binary}
use Rattle.std.proofs.Common.{refl}
use Rattle.cad_labels.specs.Laws.{HasNone, Keeps, AnyOne}
use Rattle.cad_world.specs.State.{give}
use Rattle.cad_label_runs.proofs.Casts.{dereferenced_keeps}
use Rattle.cad_label_runs.proofs.Numbers.{negated_keeps, on_numbers_keeps}
use Rattle.cad_labels.proofs.Forms.{keeps_give, keeps_guard, keeps_require, keeps_some, keeps_spend, keeps_stuck}
use Rattle.cad_labels.proofs.Keeping.{keeps_bind}
use Rattle.cad_labels.proofs.Places.{deref_keeps}

pub compared_keeps : (x1 : Tree) (x2 : Tree) → Keeps AnyOne (compared x1 x2)
compared_keeps a b = keeps_require AnyOne 123 (nat_le (tree_height a) most_high && nat_le (tree_height b) most_high) _ (keeps_spend ((tree_weight a - 1) + (tree_weight b - 1)))

pub told_keeps : (x1 : Option Bool) → Keeps HasNone (told x1)
told_keeps x = keeps_some HasNone x (λ b. give (bool_tree b)) (λ b. keeps_give HasNone (bool_tree b) (λ p. refl))

pub ordered_keeps : (x1 : Option Bool) (x2 : Tree) (x3 : Tree) → Keeps HasNone (ordered x1 x2 x3)
ordered_keeps x a b = keeps_some HasNone x _ (λ is. keeps_bind AnyOne HasNone _ (λ u1. give (bool_tree is)) (compared_keeps a b) (λ u1 h_u1. keeps_give HasNone (bool_tree is) (λ p. refl)))

pub unary_keeps : (x1 : UnaryOperator) (x2 : Tree) → Keeps HasNone (unary x1 x2)
unary_keeps u.Negate a = negated_keeps a
unary_keeps u.Not a = keeps_some HasNone (truth_of a) (λ x. give (bool_tree (not x))) (λ x. keeps_give HasNone (bool_tree (not x)) (λ p. refl))
unary_keeps u.Dereference a = keeps_guard HasNone (is_reference a) _ (keeps_bind AnyOne HasNone _ _ (deref_keeps a.shape) (λ v1 h_v1. dereferenced_keeps v1))
unary_keeps _ a = keeps_stuck HasNone

pub binary_keeps : (x1 : BinaryOperator) (x2 : Tree) (x3 : Tree) → Keeps HasNone (binary x1 x2 x3)
binary_keeps o.Add a b = on_numbers_keeps sum a b
binary_keeps o.Subtract a b = on_numbers_keeps difference a b
binary_keeps o.Multiply a b = on_numbers_keeps product a b
binary_keeps o.Divide a b = on_numbers_keeps quotient a b
binary_keeps o.Remainder a b = on_numbers_keeps remainder a b
binary_keeps o.BitAnd a b = on_numbers_keeps (bits bit.And) a b
binary_keeps o.BitOr a b = on_numbers_keeps (bits bit.Or) a b
binary_keeps o.BitXor a b = on_numbers_keeps (bits bit.Xor) a b
binary_keeps o.Less a b = ordered_keeps (less a b) a b
binary_keeps o.LessOrEqual a b = ordered_keeps (option_map not (less b a)) a b
binary_keeps o.Greater a b = ordered_keeps (less b a) a b
binary_keeps o.GreaterOrEqual a b = ordered_keeps (option_map not (less a b)) a b
binary_keeps o.Equal a b = keeps_bind AnyOne HasNone _ (λ u1. give (bool_tree (same a b))) (compared_keeps a b) (λ u1 h_u1. keeps_give HasNone (bool_tree (same a b)) (λ p. refl))
binary_keeps o.NotEqual a b = keeps_bind AnyOne HasNone _ (λ u1. give (bool_tree (not (same a b)))) (compared_keeps a b) (λ u1 h_u1. keeps_give HasNone (bool_tree (not (same a b))) (λ p. refl))
binary_keeps _ a b = keeps_stuck HasNone
