-- Operations on two numbers of one kind, by their names.
use Rattle.std.specs.Prelude.{ℤ, Result}
use Rattle.cad_syntax.specs.declared.kind.Kind.{Kind}
use Rattle.cad_num.specs.declared.error.NumError.{NumError}
use Rattle.cad_evaluation.specs.Numbers.{sum, difference, product, quotient, remainder, bits, saturating}
use Rattle.cad_operators.specs.declared.numbers.Operation.{Operation}
use Rattle.cad_operators.specs.declared.numbers.Operation.TheVariants as o

abbrev pub on_integers : Operation → Kind → ℤ → ℤ → Result ℤ NumError
on_integers o.Sum = sum
on_integers o.Difference = difference
on_integers o.Product = product
on_integers o.Quotient = quotient
on_integers o.Remainder = remainder
on_integers (o.Bits op) = bits op
on_integers (o.Saturation op) = saturating op
