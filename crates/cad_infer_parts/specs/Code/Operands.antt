-- Operators whose operands are a value each, the right one of the left one's type.
use Rattle.std.specs.Prelude.{Option, None}
use Rattle.cad_grammar.specs.declared.expression.BinaryOperator.{BinaryOperator}
use Rattle.cad_typing.specs.Environments.{Environment, Typing}
use Rattle.cad_typing.specs.Expressions.{Family, arithmetical, bitwise, ordering, equality}
use Rattle.cad_typing.specs.Operators.{arithmetic, ordered, compared}
use Rattle.cad_typing.specs.Types.{is_number_type, is_integer_type}

-- what the operator gives of its operands
abbrev pub operated : Environment → BinaryOperator → Family → Typing → Typing → Option Typing
operated env op arithmetical = arithmetic is_number_type op
operated env op bitwise = arithmetic is_integer_type op
operated env op ordering = ordered op
operated env op equality = compared env op
operated env op _ = λ x y. None
