-- Numbers: labels are kept apart, and values in hand have none.
use Rattle.std.specs.Prelude.{false, ℤ, pos, Result, Ok, Err}
use Rattle.std.specs.Prelude.{int_div, neg_ℤ, ◌*ℤ◌}
use Rattle.cad_syntax.specs.Kinds.{greatest, depth}
use Rattle.cad_syntax.specs.declared.kind.Kind.{Kind}
use Rattle.cad_num.specs.Numbers.{scale, outcome}
use Rattle.cad_num.specs.Numbers as n
use Rattle.cad_num.specs.declared.error.NumError.{NumError}
use Rattle.cad_world.specs.Rows.{Tree}
use Rattle.cad_evaluation.specs.Numbers.{number_tree, number_of, number_from, number_in, error_of, numbered, same_kind, on_numbers, negated, converted, greatest_tree, least_tree}
use Rattle.std.proofs.Common.{refl}
use Rattle.cad_labels.specs.Laws.{HasNone, Keeps}
use Rattle.cad_world.specs.State.{give}
use Rattle.cad_labels.proofs.Forms.{keeps_fail, keeps_give, keeps_guard, keeps_some}

pub numbered_keeps : (x1 : Kind) (x2 : Result ℤ NumError) → Keeps HasNone (numbered x1 x2)
numbered_keeps kind (Ok z) = keeps_some HasNone (number_from kind z) (λ x. give (number_tree x)) (λ x. keeps_give HasNone (number_tree x) (λ p. refl))
numbered_keeps kind (Err e) = keeps_fail HasNone (error_of e)

pub on_numbers_keeps : (x1 : (Kind → ℤ → ℤ → Result ℤ NumError)) (x2 : Tree) (x3 : Tree) → Keeps HasNone (on_numbers x1 x2 x3)
on_numbers_keeps operation a b = keeps_some HasNone (number_in a) _ (λ x. keeps_some HasNone (number_in b) _ (λ y. keeps_guard HasNone (same_kind x y) _ (numbered_keeps x.kind (operation x.kind (n.value_of x) (n.value_of y)))))

pub negated_keeps : (x1 : Tree) → Keeps HasNone (negated x1)
negated_keeps a = keeps_some HasNone (number_in a) _ (λ x. numbered_keeps x.kind (outcome x.kind (neg_ℤ (n.value_of x))))

pub converted_keeps : (x1 : Kind) (x2 : Tree) → Keeps HasNone (converted x1 x2)
converted_keeps kind a = keeps_some HasNone (number_in a) _ (λ x. numbered_keeps kind (outcome kind (int_div (n.value_of x *ℤ pos (scale kind)) (pos (scale x.kind)))))

pub greatest_tree_keeps : (x1 : Kind) → Keeps HasNone (greatest_tree x1)
greatest_tree_keeps kind = keeps_some HasNone (number_of kind false (greatest kind)) (λ x. give (number_tree x)) (λ x. keeps_give HasNone (number_tree x) (λ p. refl))

pub least_tree_keeps : (x1 : Kind) → Keeps HasNone (least_tree x1)
least_tree_keeps kind = keeps_some HasNone (number_from kind (neg_ℤ (pos (depth kind)))) (λ x. give (number_tree x)) (λ x. keeps_give HasNone (number_tree x) (λ p. refl))
