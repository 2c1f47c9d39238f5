-- Numbers as values, and what the arithmetic of cad_num makes of them.
use Rattle.std.specs.Prelude.{ℕ, zero, Bool, true, false, ◌==◌, Option, Some, None, option_and_then, ℤ, pos, Result, Ok, Err, if◌then◌else◌, ◌≡◌}
use Rattle.std.specs.Prelude.{int_lt, int_div, int_rem, neg_ℤ, ◌+ℤ◌, ◌-ℤ◌, ◌*ℤ◌, nat_abs}
use Rattle.cad_syntax.specs.Kinds.{is_kept, greatest, depth}
use Rattle.cad_syntax.specs.declared.kind.Kind.{Kind}
use Rattle.cad_syntax.specs.declared.num.Num.{Num}
use Rattle.cad_num.specs.Numbers.{is_fixed, scale, outcome, divided_by, exact_of, saturated, twos_complement, from_twos_complement, bit_by_bit}
use Rattle.cad_num.specs.Numbers as n
use Rattle.cad_num.specs.declared.bitwise.BitOp.{BitOp}
use Rattle.cad_num.specs.declared.error.NumError.{NumError}
use Rattle.cad_num.specs.declared.error.NumError.TheVariants.{Overflow, Underflow, DivisionByZero}
use Rattle.cad_num.specs.declared.saturation.Op.{Op}
use Rattle.cad_num.specs.declared.saturation.Op.TheVariants.{Mul, Div}
use Rattle.cad_types.specs.Basics.{kind_number}
use Rattle.cad_values.specs.Values.{PureValue, bool, number}
use Rattle.cad_world.specs.Rows.{NodeShape, plain, Tree}
use Rattle.cad_world.specs.State.{Action, give, fail, guard, with_some}
use Rattle.cad_world.specs.Trees.{of_plain}

-- ---- numbers as values

abbrev pub number_tree : Num → Tree
number_tree x = of_plain (number x)

abbrev pub bool_tree : Bool → Tree
bool_tree x = of_plain (bool x)

abbrev pub kept_number : (kind : Kind) (negative : Bool) (magnitude : ℕ) (is_in : Bool) → is_kept kind negative magnitude ≡ is_in → Option Num
kept_number kind negative magnitude true kept = Some (record { kind = kind; negative = negative; magnitude = magnitude; kept = kept })
kept_number kind negative magnitude false kept = None

-- the number with this sign and magnitude, where the kind has one
abbrev pub number_of : Kind → Bool → ℕ → Option Num
number_of kind negative magnitude = kept_number kind negative magnitude (is_kept kind negative magnitude) (λ i. is_kept kind negative magnitude)

-- the number of an integer
abbrev pub number_from : Kind → ℤ → Option Num
number_from kind z = number_of kind (int_lt z (pos 0)) (nat_abs z)

abbrev pub number_in_value : PureValue → Option Num
number_in_value (number x) = Some x
number_in_value _ = None

abbrev pub number_in_shape : ℕ → NodeShape → Option Num
number_in_shape zero (plain v) = number_in_value v
number_in_shape n shape = None

abbrev pub number_in : Tree → Option Num
number_in t = number_in_shape t.optionals t.shape

abbrev pub whole : Num → Option ℤ
whole x = if is_fixed x.kind then None else Some (n.value_of x)

-- a whole number of any kind
abbrev pub integer_in : Tree → Option ℤ
integer_in t = option_and_then whole (number_in t)

abbrev pub truth_in_value : PureValue → Option Bool
truth_in_value (bool x) = Some x
truth_in_value _ = None

abbrev pub truth_in_shape : ℕ → NodeShape → Option Bool
truth_in_shape zero (plain v) = truth_in_value v
truth_in_shape n shape = None

-- a Bool
abbrev pub truth_of : Tree → Option Bool
truth_of t = truth_in_shape t.optionals t.shape

-- ---- outcomes of arithmetic

abbrev pub error_of : NumError → ℕ
error_of Overflow = 101
error_of Underflow = 102
error_of DivisionByZero = 103

-- the number of a kind that has this integer; 101, 102 and 103 where there is none
abbrev pub numbered : Kind → Result ℤ NumError → Action Tree
numbered kind (Ok z) = with_some (number_from kind z) (λ x. give (number_tree x))
numbered kind (Err e) = fail (error_of e)

abbrev pub same_kind : Num → Num → Bool
same_kind x y = kind_number x.kind == kind_number y.kind

-- an operation on two numbers of one kind
abbrev pub on_numbers : (Kind → ℤ → ℤ → Result ℤ NumError) → Tree → Tree → Action Tree
on_numbers operation a b =
    with_some (number_in a) (λ x. with_some (number_in b) (λ y.
    guard (same_kind x y) (numbered x.kind (operation x.kind (n.value_of x) (n.value_of y)))))

abbrev pub sum : Kind → ℤ → ℤ → Result ℤ NumError
sum kind x y = outcome kind (x +ℤ y)

abbrev pub difference : Kind → ℤ → ℤ → Result ℤ NumError
difference kind x y = outcome kind (x -ℤ y)

abbrev pub product : Kind → ℤ → ℤ → Result ℤ NumError
product kind x y = outcome kind (exact_of Mul kind x y)

abbrev pub quotient : Kind → ℤ → ℤ → Result ℤ NumError
quotient kind x y = divided_by y (outcome kind (exact_of Div kind x y))

abbrev pub remainder : Kind → ℤ → ℤ → Result ℤ NumError
remainder kind x y = divided_by y (outcome kind (int_rem x y))

abbrev pub bits : BitOp → Kind → ℤ → ℤ → Result ℤ NumError
bits operation kind x y = Ok (from_twos_complement kind (bit_by_bit operation (twos_complement kind x) (twos_complement kind y)))

abbrev pub saturating : Op → Kind → ℤ → ℤ → Result ℤ NumError
saturating operation kind x y = saturated operation kind x y

abbrev pub negated : Tree → Action Tree
negated a = with_some (number_in a) (λ x. numbered x.kind (outcome x.kind (neg_ℤ (n.value_of x))))

-- a number of another kind; decimals that it hasn't are cut off
abbrev pub converted : Kind → Tree → Action Tree
converted kind a = with_some (number_in a) (λ x. numbered kind (outcome kind (int_div (n.value_of x *ℤ pos (scale kind)) (pos (scale x.kind)))))

-- the greatest and the least number of a kind
abbrev pub greatest_tree : Kind → Action Tree
greatest_tree kind = with_some (number_of kind false (greatest kind)) (λ x. give (number_tree x))

abbrev pub least_tree : Kind → Action Tree
least_tree kind = with_some (number_from kind (neg_ℤ (pos (depth kind)))) (λ x. give (number_tree x))
