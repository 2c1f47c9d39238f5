-- Numbers: the same while the units last.
use Rattle.std.specs.Prelude.{false, ℤ, pos, Result, Ok, Err}
use Rattle.std.specs.Prelude.{int_div, neg_ℤ, ◌*ℤ◌}
use Rattle.cad_syntax.specs.Kinds.{greatest, depth}
use Rattle.cad_syntax.specs.declared.kind.Kind.{Kind}
use Rattle.cad_num.specs.Numbers.{scale, outcome}
use Rattle.cad_num.specs.Numbers as n
use Rattle.cad_num.specs.declared.error.NumError.{NumError}
use Rattle.cad_world.specs.Rows.{Tree}
use Rattle.cad_evaluation.specs.Numbers.{number_tree, number_of, number_from, number_in, error_of, numbered, same_kind, on_numbers, negated, converted, greatest_tree, least_tree}
use Rattle.cad_bounds.proofs.Same.{Runs, Same, same_give, same_fail, same_some, same_guard}

pub same_numbered : (R : Runs) (x1 : Kind) (x2 : Result ℤ NumError) → Same R (numbered x1 x2) (numbered x1 x2)
same_numbered R kind (Ok z) = same_some R (number_from kind z) _ _ (λ x. (same_give R (number_tree x)))
same_numbered R kind (Err e) = same_fail R (error_of e)

pub same_on_numbers : (R : Runs) (x1 : (Kind → ℤ → ℤ → Result ℤ NumError)) (x2 : Tree) (x3 : Tree) → Same R (on_numbers x1 x2 x3) (on_numbers x1 x2 x3)
same_on_numbers R operation a b = same_some R (number_in a) _ _ (λ x. (same_some R (number_in b) _ _ (λ y. (same_guard R (same_kind x y) _ _ (same_numbered R x.kind (operation x.kind (n.value_of x) (n.value_of y)))))))

pub same_negated : (R : Runs) (x1 : Tree) → Same R (negated x1) (negated x1)
same_negated R a = same_some R (number_in a) _ _ (λ x. (same_numbered R x.kind (outcome x.kind (neg_ℤ (n.value_of x)))))

pub same_converted : (R : Runs) (x1 : Kind) (x2 : Tree) → Same R (converted x1 x2) (converted x1 x2)
same_converted R kind a = same_some R (number_in a) _ _ (λ x. (same_numbered R kind (outcome kind (int_div (n.value_of x *ℤ pos (scale kind)) (pos (scale x.kind))))))

pub same_greatest_tree : (R : Runs) (x1 : Kind) → Same R (greatest_tree x1) (greatest_tree x1)
same_greatest_tree R kind = same_some R (number_of kind false (greatest kind)) _ _ (λ x. (same_give R (number_tree x)))

pub same_least_tree : (R : Runs) (x1 : Kind) → Same R (least_tree x1) (least_tree x1)
same_least_tree R kind = same_some R (number_from kind (neg_ℤ (pos (depth kind)))) _ _ (λ x. (same_give R (number_tree x)))
