-- Operators of two operands, with what comparisons are charged apart from what they answer.
use Rattle.std.specs.Prelude.{Bool, true, false, not, Option, Some, None, option_map, if◌then◌else◌}
use Rattle.cad_grammar.specs.declared.expression.BinaryOperator.{BinaryOperator}
use Rattle.cad_grammar.specs.declared.expression.BinaryOperator.TheVariants as o
use Rattle.cad_world.specs.Rows.{Tree}
use Rattle.cad_world.specs.State.{Action, ◌>>=◌, ◌>>◌, give, done, stuck}
use Rattle.cad_evaluation.specs.Numbers.{on_numbers}
use Rattle.cad_evaluation.specs.Operators.{binary, compared, less, same, told}
use Rattle.cad_num.specs.declared.bitwise.BitOp.TheVariants as bit
use Rattle.cad_operators.specs.Calculations.{on_integers}
use Rattle.cad_operators.specs.declared.numbers.Operation.{Operation}
use Rattle.cad_operators.specs.declared.numbers.Operation.TheVariants as n

-- what a comparison tells
abbrev pub comparison : BinaryOperator → Tree → Tree → Option Bool
comparison o.Less a b = less a b
comparison o.LessOrEqual a b = option_map not (less b a)
comparison o.Greater a b = less b a
comparison o.GreaterOrEqual a b = option_map not (less a b)
comparison o.Equal a b = Some (same a b)
comparison o.NotEqual a b = Some (not (same a b))
comparison _ a b = None

abbrev pub is_comparison : BinaryOperator → Bool
is_comparison o.Less = true
is_comparison o.LessOrEqual = true
is_comparison o.Greater = true
is_comparison o.GreaterOrEqual = true
is_comparison o.Equal = true
is_comparison o.NotEqual = true
is_comparison _ = false

-- the operation on numbers that an operator is
abbrev pub calculation : BinaryOperator → Option Operation
calculation o.Add = Some n.Sum
calculation o.Subtract = Some n.Difference
calculation o.Multiply = Some n.Product
calculation o.Divide = Some n.Quotient
calculation o.Remainder = Some n.Remainder
calculation o.BitAnd = Some (n.Bits bit.And)
calculation o.BitOr = Some (n.Bits bit.Or)
calculation o.BitXor = Some (n.Bits bit.Xor)
calculation _ = None

abbrev pub calculated : Option Operation → Tree → Tree → Action Tree
calculated (Some operation) a b = on_numbers (on_integers operation) a b
calculated None a b = stuck

-- what an operator makes of its operands, without the units of a comparison
abbrev pub answer : BinaryOperator → Tree → Tree → Action Tree
answer op a b = if is_comparison op then told (comparison op a b) else binary op a b

-- the units of a comparison
abbrev pub charge : BinaryOperator → Tree → Tree → Action (Unit {0})
charge op a b = if is_comparison op then compared a b else done

-- the answer, and then the charge
abbrev pub with_charge : BinaryOperator → Tree → Tree → Action Tree
with_charge op a b = answer op a b >>= (λ r. charge op a b >> give r)
